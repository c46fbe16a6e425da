-- The bytes of an epoch with one more entry.
use Rattle.std.proofs.Common.{◌≡◌, List, [], ◌∷◌, ◌++◌, Option, Some, None, refl, sym, ap, ◌∙◌, append-nil, append_assoc}
use Rattle.arch_base.specs.declared.ids.ObjectId.{ObjectId}
use Rattle.arch_base.specs.declared.ids.Form.{Form}
use Rattle.arch_model.specs.Archives.{Entry}
use Rattle.mail_commits.specs.Entries.{commit_id, entry_bytes, magic}
use Rattle.arch_model.specs.Epochs.{entries_bytes, last_commit, epoch_bytes}

-- One more entry after the others.
pub entries_bytes-push : (form : Form) (parent : Option ObjectId) (entries : List Entry) (entry : Entry)
    → entries_bytes form parent (entries ++ entry ∷ []) ≡ entries_bytes form parent entries ++ entry_bytes form entry.kind entry.text entry.moment (last_commit form parent entries)
entries_bytes-push form parent [] entry = append-nil (entry_bytes form entry.kind entry.text entry.moment parent)
entries_bytes-push form parent (first ∷ entries) entry =
    ap (λ bytes. entry_bytes form first.kind first.text first.moment parent ++ bytes) (entries_bytes-push form (Some (commit_id form first.kind first.text first.moment parent)) entries entry)
    ∙ sym (append_assoc (entry_bytes form first.kind first.text first.moment parent) (entries_bytes form (Some (commit_id form first.kind first.text first.moment parent)) entries)
    (entry_bytes form entry.kind entry.text entry.moment (last_commit form (Some (commit_id form first.kind first.text first.moment parent)) entries)))

-- Its commit is the last one.
pub last_commit-push : (form : Form) (parent : Option ObjectId) (entries : List Entry) (entry : Entry)
    → last_commit form parent (entries ++ entry ∷ []) ≡ Some (commit_id form entry.kind entry.text entry.moment (last_commit form parent entries))
last_commit-push form parent [] entry = refl
last_commit-push form parent (first ∷ entries) entry = last_commit-push form (Some (commit_id form first.kind first.text first.moment parent)) entries entry

-- The bytes of an epoch's first entry.
pub epoch_bytes-first : (form : Form) (entry : Entry) → epoch_bytes form (entry ∷ []) ≡ magic form ++ entry_bytes form entry.kind entry.text entry.moment None
epoch_bytes-first form entry = ap (λ bytes. magic form ++ bytes) (append-nil (entry_bytes form entry.kind entry.text entry.moment None))

-- One more entry appends its bytes to the epoch.
pub epoch_bytes-push : (form : Form) (first : Entry) (entries : List Entry) (entry : Entry)
    → epoch_bytes form ((first ∷ entries) ++ entry ∷ []) ≡ epoch_bytes form (first ∷ entries) ++ entry_bytes form entry.kind entry.text entry.moment (last_commit form None (first ∷ entries))
epoch_bytes-push form first entries entry =
    ap (λ bytes. magic form ++ bytes) (entries_bytes-push form None (first ∷ entries) entry)
    ∙ sym (append_assoc (magic form) (entries_bytes form None (first ∷ entries)) (entry_bytes form entry.kind entry.text entry.moment (last_commit form None (first ∷ entries))))
