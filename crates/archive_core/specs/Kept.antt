-- Private: what an archive on a disk keeps beside its store: its messages by their ids and by their
-- blob ids.
use Rattle.std.specs.Prelude.{◌≡◌, ℕ, List, Option, Some, None}
use Rattle.std.specs.List.{AllZip}
use Rattle.mail_commits.specs.declared.ids.TextIds.{TextIds}
use Rattle.mail_commits.specs.Ids.{text_ids_of}
use Rattle.arch_base.specs.declared.ids.ObjectId.{ObjectId}
use Rattle.arch_base.specs.declared.ids.Form.{Form}
use Rattle.mail_reader.specs.Content.{content_id_of}
use Rattle.mail_reader.specs.Ids.{own_id}
use Rattle.arch_model.specs.Archives.{Entry, live, IsFree}
use Rattle.arch_judge.specs.Indexes.{HasSame, IndexPuts, IndexLoses, owner_in, number_in}
use Rattle.arch_judge.specs.Judging.{IsForDelivery, MayBeKept}
use Rattle.arch_model.specs.declared.answer.Answer.TheVariants as answer
use Rattle.arch_judge.specs.declared.index.Index.{Index}
use Rattle.arch_judge.specs.declared.judging.Verdict.{Verdict}
use Rattle.arch_judge.specs.declared.judging.Verdict.TheVariants.{Take, Refuse}
use Rattle.store_finding.specs.declared.entries.StoredEntry.{StoredEntry}
use Rattle.store_finding.specs.Indexes.{AreOf, IndexesStored}
use Rattle.store_finding.specs.Kept.{StoreState}
use Rattle.epoch_store.specs.Commands.{Accepts}
use Rattle.store_planning.specs.Dropping.{KeptOf}

-- An index is that of entries, wherever in their epochs they are kept.
abbrev pub IndexesKept : List StoredEntry → Index → Type 0
IndexesKept entries index = (kept : List StoredEntry) → AllZip KeptOf entries kept
    → IndexesStored kept index

-- A text's own id and its blob id were put into an index.
abbrev pub PutsText : Index → Index → List ℕ → ObjectId → ℕ → Type 0
PutsText old new text blob number = (id : List ℕ) → own_id text ≡ Some id
    → IndexPuts old new id blob (record { number = number; content = content_id_of text })

-- An index has the same as before a text with a new own id was put into it. Its blob id had this
-- number there before, or none.
abbrev pub TakesBackText : Index → Index → List ℕ → ObjectId → ℕ → Option ℕ → Type 0
TakesBackText put new text blob number older = (old : Index) (id : List ℕ) → own_id text ≡ Some id
    → IndexPuts old put id blob (record { number = number; content = content_id_of text })
    → owner_in old.owners id ≡ None → number_in old.blobs blob ≡ older → HasSame old new

-- A text's own id was removed from an index.
abbrev pub LosesText : Index → Index → List ℕ → Type 0
LosesText old new text = (id : List ℕ) → own_id text ≡ Some id → IndexLoses old new id

-- No live message of the entries of which this is kept, in whatever form, has the own id of a text.
abbrev pub IsNewTo : List StoredEntry → List ℕ → Type 0
IsNewTo kept text = (form : Form) (entries : List Entry) → AreOf form kept entries
    → IsFree (live entries) text

-- A text that is taken would be accepted, and these are its ids, in the form of the archive.
pub record MayGoIn (v : StoreState) (text : List ℕ) (ids : TextIds) : Type 0 where
  pub accepts : Accepts v text
  pub new_id : IsNewTo v.entries text
  pub ids_are : ids ≡ text_ids_of v.root.config.form text

-- A text that is taken by an index may be kept. A refusal is an answer to a delivery, or tells of a
-- read that failed.
abbrev pub TakesWhatMay : StoreState → Index → Verdict → Type 0
TakesWhatMay v index (Take text ids number) =
    MayBeKept v.root.config index v.root.next text ids number
TakesWhatMay v index (Refuse answer.DiskFault) = Unit {0}
TakesWhatMay v index (Refuse (answer.Damaged file at)) = Unit {0}
TakesWhatMay v index (Refuse reply) = IsForDelivery reply
