-- The damage that a command tells: which file it is in, and where.
use Rattle.std.specs.Prelude.{◌≡◌, ◌≢◌, ◌⊎◌, ℕ, List, slice_get, Option, Some}
use Rattle.disk_model.specs.declared.name.FileName.{FileName}
use Rattle.disk_model.specs.Disk.{Content}
use Rattle.mail_reader.specs.Ids.{own_id}
use Rattle.arch_model.specs.declared.answer.Answer.{Answer}
use Rattle.arch_model.specs.declared.answer.Answer.TheVariants as answer
use Rattle.arch_judge.specs.declared.judging.Verdict.{Verdict}
use Rattle.arch_judge.specs.declared.judging.Verdict.TheVariants.{Take, Refuse}
use Rattle.store_finding.specs.declared.entries.StoredEntry.{StoredEntry}
use Rattle.store_planning.specs.DamagedTexts.{IsDamageIn, IsDamagedEntry}
use Rattle.store_finding.specs.Files.{epoch_file_of}
use Rattle.epoch_store.specs.Reads.{IsTextOf}
use Rattle.store_finding.specs.Kept.{StoreState}

-- What holds of the file and the offset of the damage that an answer tells.
abbrev pub OnDamage : Answer → (FileName → ℕ → Type 0) → Type 0
OnDamage (answer.Damaged file at) P = P file at
OnDamage other P = Unit {0}

-- A file and an offset are those of an entry that is kept with another own id than that of a text of its
-- size and its blob id.
pub record IsMisnamed (v : StoreState) (file : FileName) (at : ℕ) : Type 0 where
  pub index : ℕ
  pub entry : StoredEntry
  pub there : slice_get v.entries index ≡ Some entry
  pub file_is : file ≡ epoch_file_of v.root entry.epoch
  pub at_is : at ≡ entry.seen.at
  pub text : List ℕ
  pub is_text : IsTextOf entry text
  pub other : own_id text ≢ Some entry.seen.id

-- The answer is damaged only with the place of an entry whose text isn't there, where the disk tells its
-- content.
abbrev pub TellsEntry : StoreState → Option Content → Answer → Type 0
TellsEntry v content reply =
    OnDamage reply (λ (file : FileName) (at : ℕ). IsDamagedEntry v file at content)

-- The same of a verdict that refuses.
abbrev pub RefusesVerdict : StoreState → Option Content → Verdict → Type 0
RefusesVerdict v content (Take text ids number) = Unit {0}
RefusesVerdict v content (Refuse reply) = TellsEntry v content reply

-- The answer is damaged only so, or with a file that is shorter than the root says, or with the place of
-- an entry that has another own id.
abbrev pub TellsDamage : StoreState → Option Content → Answer → Type 0
TellsDamage v content reply = OnDamage reply
    (λ (file : FileName) (at : ℕ). IsDamageIn v file at content ⊎ IsMisnamed v file at)
