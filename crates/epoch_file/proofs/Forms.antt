-- The ids in entries that a walk finds.
use Rattle.std.specs.Prelude.{ℕ, List, [], ◌∷◌, ◌++◌, Option}
use Rattle.std.proofs.Common.{subst, sym}
use Rattle.arch_base.specs.declared.ids.Form.{Form}
use Rattle.arch_base.specs.declared.ids.ObjectId.{ObjectId}
use Rattle.epoch_file.specs.declared.entry.Seen.{Seen}
use Rattle.epoch_file.specs.Forms.{HasIdsOf, HaveIdsOf}
use Rattle.epoch_file.specs.Reading.{IsEntryRead}
use Rattle.epoch_file.proofs.Kept.{IsObjectId-commit}
use Rattle.epoch_file.proofs.Parts.{blob_id_valid}

-- One more entry.
pub ids_more : (form : Form) (ss : List Seen) (s : Seen) → HaveIdsOf form ss → HasIdsOf form s → HaveIdsOf form (ss ++ s ∷ [])
ids_more form [] s have has = (has, tt)
ids_more form (t ∷ ss) s have has = (have.0, ids_more form ss s have.1 has)

-- An entry that is read has ids of its form.
pub read_ids : (form : Form) (offset : ℕ) (parent : Option ObjectId) (bytes : List ℕ) (found : Seen × ℕ) → IsEntryRead form offset parent bytes found → HasIdsOf form found.0
read_ids form offset parent bytes found r =
    subst (HasIdsOf form) (sym r.seen) (record { blob = blob_id_valid form r.entry.text; commit = IsObjectId-commit form parent r.entry })
