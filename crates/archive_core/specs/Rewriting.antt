-- Private: purges and edits of an archive on a disk.
use Rattle.std.specs.Prelude.{◌≡◌, ◌+◌, ◌-◌, ◌<◌, ◌^◌, ℕ, Bool, List, [], Some, Result, Ok, Err}
use Rattle.arch_base.specs.Counts.{RoseIf}
use Rattle.arch_base.specs.declared.ids.ObjectId.{ObjectId}
use Rattle.disk_model.specs.declared.disk.Disk.{Ghosts as Disk}
use Rattle.disk_model.specs.Disk.{BothTold, WhereTold}
use Rattle.disk_model.specs.Moments.{LeavesOnly}
use Rattle.disk_model.specs.Synced.{IsSettled}
use Rattle.root_slots.specs.OneRoot.{BeginsRootIn}
use Rattle.root_slots.specs.Slots.{HasNewRoot}
use Rattle.root_slots.specs.Spelling.{spelling}
use Rattle.mail_reader.specs.declared.storing.StoredRefusal.{StoredRefusal}
use Rattle.mail_reader.specs.declared.storing.StoredRefusal.TheVariants as storing
use Rattle.mail_commits.specs.declared.ids.TextIds.{TextIds}
use Rattle.mail_commits.specs.Ids.{text_ids_of}
use Rattle.arch_model.specs.Archives.{Archive, live, text_of, without_entries}
use Rattle.arch_model.specs.Delivery.{delivered, is_form, unless_refused}
use Rattle.arch_model.specs.declared.answer.Answer.{Answer}
use Rattle.arch_model.specs.declared.answer.Answer.TheVariants as answer
use Rattle.arch_judge.specs.declared.judging.Verdict.{Verdict}
use Rattle.arch_judge.specs.declared.judging.Verdict.TheVariants.{Take, Refuse}
use Rattle.epoch_file.specs.declared.refusal.StoreRefusal.{StoreRefusal}
use Rattle.store_finding.specs.Kept.{StoreState, IsStoreWith}
use Rattle.epoch_store.specs.Commands.{StoreHasSizes, MayEdit, RecoversOneOf, GoesOnAnew}
use Rattle.archive_core.specs.DamageTold.{TellsDamage}
use Rattle.archive_core.specs.Commands.{AnswersDelivery, DoneBy, IfUnreadEdit, OnDone, OnRefusal, OnlyLooks, UnlessFault}

-- The answers where there is no storage form to compare, or a text wasn't read.
abbrev pub IsUnformed : Answer → Type 0
IsUnformed answer.NoFields = Unit {0}
IsUnformed (answer.TooLarge len) = Unit {0}
IsUnformed answer.NoMemory = Unit {0}
IsUnformed answer.DiskFault = Unit {0}
IsUnformed (answer.Damaged file at) = Unit {0}
IsUnformed other = ⊥

-- Whether a storage form is the text of a live number. If there is none, why. Nothing is damaged.
abbrev pub ComparesForm : Archive → ℕ → Result (List ℕ) StoredRefusal → Result Bool Answer → Type 0
ComparesForm a number form (Ok same) = (text : List ℕ) → text_of (live a.entries) number ≡ Some text
    → same ≡ is_form text form
ComparesForm a number form (Err answer.NoFields) = form ≡ Err storing.NoFields
ComparesForm a number form (Err (answer.TooLarge len)) = form ≡ Err (storing.TooLarge len)
ComparesForm a number form (Err answer.NoMemory) = Unit {0}
ComparesForm a number form (Err answer.DiskFault) = Unit {0}
ComparesForm a number form (Err other) = ⊥

-- A refusal of a delivery whose form was found before, by an archive that takes deliveries.
abbrev pub IsLate : Answer → Type 0
IsLate (answer.Duplicate number) = Unit {0}
IsLate (answer.Full max) = Unit {0}
IsLate (answer.Collision number) = Unit {0}
IsLate answer.NoMemory = Unit {0}
IsLate answer.DiskFault = Unit {0}
IsLate (answer.Damaged file at) = Unit {0}
IsLate other = ⊥

-- The same of a verdict that refuses.
abbrev pub RefusesLate : Verdict → Type 0
RefusesLate (Take text ids number) = Unit {0}
RefusesLate (Refuse reply) = IsLate reply

-- A message may be kept in place of a text: an edit would be accepted, and these are its ids, in the
-- form of the archive.
pub record MayReplace (v : StoreState) (old : ObjectId) (text : List ℕ) (ids : TextIds) : Type 0 where
  pub number : ℕ
  pub edit : MayEdit v number old text
  pub ids_are : ids ≡ text_ids_of v.root.config.form text

-- A result without what it gives.
abbrev pub bare : {T : Type 0} → Result T StoreRefusal → Result (Unit {0}) StoreRefusal
bare (Ok given) = Ok tt
bare (Err why) = Err why

-- What a delivery in place of a text promises: the answer is that of the delivery on the archive
-- without it, and a refusal leaves all as it was. Its answers come after the form was found.
pub record EditsAs {D : Type 0} (g : Disk D) (old new : D) (before after : StoreState)
    (number : ℕ) (bytes : List ℕ) (arrived : ℕ) (reply : Answer) : Type 0 where
  pub crash : (a : Archive) (cache gone : List ℕ) → IsStoreWith before cache a (g.content old)
      → before.root.sequence + 1 < 2 ^ 64 → text_of (live a.entries) number ≡ Some gone
      → LeavesOnly g old new (RecoversOneOf cache a []
      (unless_refused a (delivered (without_entries a gone) bytes arrived)).archive)
  pub done : (a : Archive) (cache gone : List ℕ) → IsStoreWith before cache a (g.content old)
      → before.root.sequence + 1 < 2 ^ 64 → text_of (live a.entries) number ≡ Some gone
      → DoneBy after cache [] a (unless_refused a (delivered (without_entries a gone) bytes arrived))
      reply (g.content new)
  pub settled : OnDone reply (WhereTold IsSettled (g.content new))
  pub goes_on : OnDone reply (GoesOnAnew before.root after.root)
  pub slot : OnDone reply (after.slot ≡ 1 - before.slot)
  pub same : OnRefusal reply (after ≡ before)
  pub untouched : OnRefusal reply (UnlessFault reply (OnlyLooks g old new))
  pub late : IfUnreadEdit reply ⊥
  pub sizes : UnlessFault reply (WhereTold (StoreHasSizes after) (g.content new))
  pub cause : RoseIf (reply ≡ answer.DiskFault) (g.faults old) (g.faults new)
  pub for_command : AnswersDelivery reply
  pub rooted : OnDone reply
      (BothTold (HasNewRoot after.slot (spelling after.root)) (g.content old) (g.content new))
  pub crash_root : BeginsRootIn g (1 - before.slot) old new
  pub damage : TellsDamage before (g.content old) reply
