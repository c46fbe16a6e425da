-- What the delivery of a message does, before anything is kept.
use Rattle.std.specs.Prelude.{◌≡◌, ◌≤◌, ℕ, true, false, List, Option, Some, None, Ok, if◌then◌else◌}
use Rattle.std.specs.Str.{bytes_eq}
use Rattle.arch_base.specs.declared.config.Config.{Config}
use Rattle.arch_base.specs.declared.ids.ObjectId.{ObjectId}
use Rattle.mail_reader.specs.StorageTexts.{IsStorageText}
use Rattle.mail_reader.specs.Stored.{stored}
use Rattle.mail_reader.specs.Ids.{own_id}
use Rattle.mail_commits.specs.declared.ids.TextIds.{TextIds}
use Rattle.mail_commits.specs.Ids.{text_ids_of}
use Rattle.arch_model.specs.Archives.{Archive, blob_number, with_entry}
use Rattle.arch_model.specs.Delivery.{delivered, delivered_kept, refused, new_epoch}
use Rattle.arch_model.specs.Keeping.{form_known}
use Rattle.arch_model.specs.Shelves.{blob_text}
use Rattle.arch_model.specs.Validity.{BlobsAgree}
use Rattle.arch_judge.specs.Indexes.{IsArchiveIndex, owner_in, number_in}
use Rattle.arch_model.specs.declared.answer.Answer.{Answer}
use Rattle.arch_model.specs.declared.answer.Answer.TheVariants as answer
use Rattle.arch_model.specs.declared.choice.Choice.{Choice}
use Rattle.arch_model.specs.declared.choice.Choice.TheVariants as choice
use Rattle.arch_judge.specs.declared.index.Index.{Index}
use Rattle.arch_judge.specs.declared.judging.Verdict.{Verdict}
use Rattle.arch_judge.specs.declared.judging.Verdict.TheVariants.{Take, Refuse}
use Rattle.arch_judge.specs.declared.judging.Judgement.{Judgement}
use Rattle.arch_judge.specs.declared.judging.Judgement.TheVariants.{Final, Compare}

-- An archive has these settings and this next number, and the index is its index, by the form of its
-- blob ids.
pub record IsKnownBy (config : Config) (index : Index) (next : ℕ) (a : Archive) : Type 0 where
  pub config_is : a.config ≡ config
  pub next_is : a.next ≡ next
  pub indexed : IsArchiveIndex a.config.form a.entries index

-- A refusal is that of the definition, at each moment. `NoMemory` may come at any time, and an
-- answer that isn't for a delivery never comes.
abbrev pub RefusesBy : Archive → List ℕ → Answer → Type 0
RefusesBy a bytes answer.NoMemory = Unit {0}
RefusesBy a bytes (answer.Ok number id) = ⊥
RefusesBy a bytes (answer.NotLive number) = ⊥
RefusesBy a bytes (answer.NoText number) = ⊥
RefusesBy a bytes answer.DiskFault = ⊥
RefusesBy a bytes (answer.Damaged file offset) = ⊥
RefusesBy a bytes other = (moment : ℕ) → delivered a bytes moment ≡ refused a other

-- A text collides with that of a number, unless it is the same.
abbrev pub unless_same : List ℕ → List ℕ → ℕ → Option ℕ
unless_same text kept number = if bytes_eq text kept then None else Some number

-- A number is that of the first entry with a blob id, which is that of the text that the delivery would
-- keep, and the text of that entry decides the delivery.
pub record Compares (a : Archive) (bytes text : List ℕ) (blob : ObjectId) (number : ℕ) : Type 0 where
  pub first : blob_number a.config.form a.entries blob ≡ Some number
  pub known : form_known a (stored bytes) ≡ true
  pub decides : BlobsAgree a.config.form a.entries → (kept : List ℕ)
      → blob_text a.config.form a.entries blob ≡ Some kept → (moment : ℕ)
      → delivered a bytes moment ≡ delivered_kept a text moment (unless_same text kept number)

-- The verdict is what the definition says of the delivery, at each moment.
abbrev pub Judges : Archive → List ℕ → Verdict → Type 0
Judges a bytes (Take text ids number) = (moment : ℕ) → delivered a bytes moment
    ≡ record { archive = with_entry a (new_epoch a) text moment; answer = answer.Ok number ids.blob }
Judges a bytes (Refuse reply) = RefusesBy a bytes reply

-- The verdict is that, or a text is to be compared, which decides it.
abbrev pub JudgesOrCompares : Archive → List ℕ → Judgement → Type 0
JudgesOrCompares a bytes (Final verdict) = Judges a bytes verdict
JudgesOrCompares a bytes (Compare text ids number) = Compares a bytes text ids.blob number

-- The text may come: the archive is not a mirror, the text is a storage text, these are its ids in the
-- form of the settings, and no live message has its own id.
pub record MayCome (config : Config) (index : Index) (text : List ℕ) (ids : TextIds) : Type 0 where
  pub writable : config.mirror ≡ false
  pub storage : IsStorageText text
  pub ids_are : ids ≡ text_ids_of config.form text
  pub new_id : (id : List ℕ) → own_id text ≡ Some id → owner_in index.owners id ≡ None

-- The text may be kept: it may come, and the archive has a number left.
pub record MayBeKept (config : Config) (index : Index) (next : ℕ) (text : List ℕ) (ids : TextIds)
    (number : ℕ) : Type 0 where
  pub comes : MayCome config index text ids
  pub number_left : next ≤ config.max
  pub number_is : number ≡ next

-- The answer is one that may refuse a delivery.
abbrev pub IsForDelivery : Answer → Type 0
IsForDelivery (answer.Ok number id) = ⊥
IsForDelivery (answer.NotLive number) = ⊥
IsForDelivery (answer.NoText number) = ⊥
IsForDelivery answer.DiskFault = ⊥
IsForDelivery (answer.Damaged file offset) = ⊥
IsForDelivery other = Unit {0}

-- A text that is taken may be kept, and no entry has its blob id. A refusal is for a delivery.
abbrev pub MayTake : Config → Index → ℕ → Verdict → Type 0
MayTake config index next (Take text ids number) =
    MayBeKept config index next text ids number × (number_in index.blobs ids.blob ≡ None)
MayTake config index next (Refuse reply) = IsForDelivery reply

-- The same, or a text that is to be compared may come, and this is the number of its blob id.
abbrev pub MayTakeOrCompare : Config → Index → ℕ → Judgement → Type 0
MayTakeOrCompare config index next (Final verdict) = MayTake config index next verdict
MayTakeOrCompare config index next (Compare text ids number) =
    MayCome config index text ids × (number_in index.blobs ids.blob ≡ Some number)

-- A refusal of a message that has a storage form, by an archive that takes deliveries: it repeats a
-- message, another text has its blob id, no number is left, or memory ran out.
abbrev pub RefusesFormed : Judgement → Type 0
RefusesFormed (Compare text ids number) = Unit {0}
RefusesFormed (Final (Take text ids number)) = Unit {0}
RefusesFormed (Final (Refuse (answer.Duplicate number))) = Unit {0}
RefusesFormed (Final (Refuse (answer.Full max))) = Unit {0}
RefusesFormed (Final (Refuse (answer.Collision number))) = Unit {0}
RefusesFormed (Final (Refuse answer.NoMemory)) = Unit {0}
RefusesFormed (Final (Refuse other)) = ⊥

-- This text is taken if it may come, or there is a refusal for a delivery.
abbrev pub TakesThis : Config → ℕ → List ℕ → TextIds → Verdict → Type 0
TakesThis config next text ids (Take taken named number) = (taken ≡ text) × (named ≡ ids)
    × ((index : Index) → MayCome config index text ids
    → MayBeKept config index next text ids number)
TakesThis config next text ids (Refuse reply) = IsForDelivery reply

-- A text is taken only if it is the same as one that was kept.
abbrev pub TakesSame : List ℕ → List ℕ → Verdict → Type 0
TakesSame text kept (Take taken named number) = kept ≡ text
TakesSame text kept (Refuse reply) = Unit {0}

-- After the texts were compared, only another text with the blob id and want of numbers refuse.
abbrev pub RefusesLast : Verdict → Type 0
RefusesLast (Take text ids number) = Unit {0}
RefusesLast (Refuse (answer.Full max)) = Unit {0}
RefusesLast (Refuse (answer.Collision number)) = Unit {0}
RefusesLast (Refuse other) = ⊥

-- The text is the storage form of some bytes.
abbrev pub IsStored : List ℕ → Type 0
IsStored text = (bytes : List ℕ) × (stored bytes ≡ Ok text)

-- The text is a storage text, and no live message has its own id.
pub record IsNewText (index : Index) (text : List ℕ) : Type 0 where
  pub storage : IsStorageText text
  pub new_id : (id : List ℕ) → own_id text ≡ Some id → owner_in index.owners id ≡ None

-- A text that the made ids decide to take is new.
abbrev pub TakesNewText : Index → Choice → Type 0
TakesNewText index (choice.Take text) = IsNewText index text
TakesNewText index (choice.Repeat number) = Unit {0}
