-- The answers to a command on an archive on a disk, and what the disk then holds.
use Rattle.std.specs.Prelude.{◌≡◌, ◌+◌, ◌-◌, ◌<◌, ◌^◌, ℕ, Bool, true, false, List, slice_get, Option, Some, None, Result, Ok, Err}
use Rattle.std.specs.List.{Contains}
use Rattle.arch_base.specs.Counts.{RoseIf}
use Rattle.arch_base.specs.declared.ids.Form.{Form}
use Rattle.arch_base.specs.declared.ids.ObjectId.{ObjectId}
use Rattle.disk_model.specs.declared.disk.Disk.{Ghosts as Disk}
use Rattle.disk_model.specs.Disk.{Content, WhereTold, BothTold, Unchanged, Image}
use Rattle.disk_model.specs.Moments.{LeavesOnly}
use Rattle.mail_reader.specs.Content.{content_id_of}
use Rattle.mail_reader.specs.Ids.{own_id}
use Rattle.mail_reader.specs.StorageTexts.{IsStorageText}
use Rattle.git_objects.specs.Objects.{blob_id_of}
use Rattle.git_objects.specs.declared.entry_kind.EntryKind.TheVariants.{Message}
use Rattle.arch_model.specs.declared.text_refusal.TextRefusal.{TextRefusal}
use Rattle.arch_model.specs.declared.text_refusal.TextRefusal.TheVariants as unread
use Rattle.arch_judge.specs.Indexes.{IsArchiveIndex}
use Rattle.arch_judge.specs.Judging.{Judges}
use Rattle.arch_judge.specs.declared.index.Index.{Index}
use Rattle.arch_judge.specs.declared.judging.Verdict.{Verdict}
use Rattle.arch_judge.specs.declared.judging.Verdict.TheVariants.{Take, Refuse}
use Rattle.store_finding.specs.declared.entries.StoredEntry.{StoredEntry}
use Rattle.store_finding.specs.Files.{epoch_file_of}
use Rattle.arch_model.specs.Keeping.{ReadsFor}
use Rattle.arch_model.specs.Shelves.{blob_text}
use Rattle.disk_model.specs.Synced.{IsSettled}
use Rattle.root_slots.specs.OneRoot.{BeginsRootIn}
use Rattle.root_slots.specs.Slots.{HasNewRoot}
use Rattle.root_slots.specs.Spelling.{spelling}
use Rattle.arch_model.specs.Archives.{Archive, Entry, blob_number, live, messages, text_of, with_entry, without_entries}
use Rattle.arch_model.specs.Delivery.{Done, collision, new_epoch}
use Rattle.arch_model.specs.declared.command.Command.{Command}
use Rattle.arch_model.specs.declared.command.Command.TheVariants.{Deliver, Remove, Purge, Edit}
use Rattle.arch_model.specs.declared.answer.Answer.{Answer}
use Rattle.arch_model.specs.declared.answer.Answer.TheVariants as answer
use Rattle.epoch_file.specs.declared.refusal.StoreRefusal.{StoreRefusal}
use Rattle.epoch_file.specs.declared.refusal.StoreRefusal.TheVariants as refusal
use Rattle.epoch_store.specs.Promises.{Appends, GoesOnBy, Renews, WriteKind, cache_by}
use Rattle.store_finding.specs.Kept.{StoreState, IsStoreWith}
use Rattle.epoch_store.specs.Commands.{StoreHasSizes, RecoversOneOf, KeepsFiles, EditsFiles}
use Rattle.epoch_store.specs.Reads.{IsTextOf}
use Rattle.archive_core.specs.DamageTold.{TellsDamage}
use Rattle.archive_core.specs.declared.texts.KeptText.{KeptText}

-- The definition's answer was given, and the disk is the own one of a store that keeps the
-- definition's archive, with a cache of these bytes.
pub record IsDone (v : StoreState) (cache : List ℕ) (wanted : Done) (reply : Answer)
    (content : Option Content) : Type 0 where
  pub answer_is : wanted.answer ≡ reply
  pub store : IsStoreWith v cache wanted.archive content

-- The answer of a call and the archive after it are the wanted ones of this archive. After
-- `NoMemory` all is as before. After `DiskFault` the archive has to be reopened. No file is ever
-- damaged. A command that is carried out leaves a cache of these other bytes.
abbrev pub DoneBy : StoreState → List ℕ → List ℕ → Archive → Done → Answer → Option Content → Type 0
DoneBy v cache left a wanted answer.NoMemory content = IsStoreWith v cache a content
DoneBy v cache left a wanted answer.DiskFault content = Unit {0}
DoneBy v cache left a wanted (answer.Ok number id) content =
    IsDone v left wanted (answer.Ok number id) content
DoneBy v cache left a wanted (answer.Damaged file offset) content = ⊥
DoneBy v cache left a wanted other content = IsDone v cache wanted other content

-- What holds after the answer `Ok`.
abbrev pub OnDone : Answer → Type 0 → Type 0
OnDone (answer.Ok number id) P = P
OnDone other P = Unit {0}

-- What holds after any answer but `Ok`.
abbrev pub OnRefusal : Answer → Type 0 → Type 0
OnRefusal (answer.Ok number id) P = Unit {0}
OnRefusal other P = P

-- What holds after any answer but `DiskFault`.
abbrev pub UnlessFault : Answer → Type 0 → Type 0
UnlessFault answer.DiskFault P = Unit {0}
UnlessFault other P = P

-- What holds of a refusal before which no text is read.
abbrev pub IfUnread : Answer → Type 0 → Type 0
IfUnread (answer.Ok number id) P = Unit {0}
IfUnread (answer.Full max) P = Unit {0}
IfUnread (answer.Collision number) P = Unit {0}
IfUnread answer.DiskFault P = Unit {0}
IfUnread (answer.Damaged file offset) P = Unit {0}
IfUnread answer.NoMemory P = Unit {0}
IfUnread other P = P

-- The same of a verdict.
abbrev pub IfRefusedUnread : Verdict → Type 0 → Type 0
IfRefusedUnread (Take text ids number) P = Unit {0}
IfRefusedUnread (Refuse reply) P = IfUnread reply P

-- The answers to a delivery.
abbrev pub AnswersDelivery : Answer → Type 0
AnswersDelivery (answer.NotLive number) = ⊥
AnswersDelivery (answer.NoText number) = ⊥
AnswersDelivery other = Unit {0}

-- The answers to the removal of a number. `Ok` and `NotLive` have this number.
abbrev pub AnswersRemoval : ℕ → Answer → Type 0
AnswersRemoval n (answer.Ok number id) = number ≡ n
AnswersRemoval n answer.IsMirror = Unit {0}
AnswersRemoval n answer.DiskFault = Unit {0}
AnswersRemoval n answer.NoMemory = Unit {0}
AnswersRemoval n (answer.NotLive number) = number ≡ n
AnswersRemoval n (answer.Damaged file offset) = Unit {0}
AnswersRemoval n other = ⊥

-- The answers to the purge of a number. `Ok` and `NoText` have this number.
abbrev pub AnswersPurge : ℕ → Answer → Type 0
AnswersPurge n (answer.Ok number id) = number ≡ n
AnswersPurge n answer.IsMirror = Unit {0}
AnswersPurge n answer.DiskFault = Unit {0}
AnswersPurge n answer.NoMemory = Unit {0}
AnswersPurge n (answer.NoText number) = number ≡ n
AnswersPurge n (answer.Damaged file offset) = Unit {0}
AnswersPurge n other = ⊥

-- The answers to the edit of a number: those to a delivery, and that this number isn't live.
abbrev pub AnswersEdit : ℕ → Answer → Type 0
AnswersEdit n (answer.NotLive number) = number ≡ n
AnswersEdit n (answer.NoText number) = ⊥
AnswersEdit n other = AnswersDelivery other

-- The answers to a command.
abbrev pub IsForCommand : Command → Answer → Type 0
IsForCommand (Deliver bytes) reply = AnswersDelivery reply
IsForCommand (Remove number) reply = AnswersRemoval number reply
IsForCommand (Purge number) reply = AnswersPurge number reply
IsForCommand (Edit number bytes) reply = AnswersEdit number reply

-- What holds of a refusal of an edit before which no text is read. Whether the message is the same is
-- known by its text, if the blob ids are the same.
abbrev pub IfUnreadEdit : Answer → Type 0 → Type 0
IfUnreadEdit (answer.Duplicate number) P = Unit {0}
IfUnreadEdit reply P = IfUnread reply P

-- What holds of a refusal of a command before which no text is read.
abbrev pub IfUnreadFor : Command → Answer → Type 0 → Type 0
IfUnreadFor (Edit number bytes) reply P = IfUnreadEdit reply P
IfUnreadFor other reply P = IfUnread reply P

-- How a command changes the files: a delivery and a removal append, and a purge and an edit write anew.
abbrev pub way_of : Command → WriteKind
way_of (Deliver bytes) = Appends
way_of (Remove number) = Appends
way_of (Purge number) = Renews
way_of (Edit number bytes) = Renews

-- The cache after a command that was carried out.
abbrev pub cache_left : Command → List ℕ → List ℕ
cache_left command cache = cache_by (way_of command) cache

-- An entry is that of the message with a number.
abbrev pub IsEntryOfNumber : StoreState → ℕ → StoredEntry → Type 0
IsEntryOfNumber v number s = Contains v.entries s × (s.seen.kind ≡ Message) × (s.number ≡ number)

-- Which files a purge and an edit keep, by the blob id of the text that they drop.
abbrev pub FilesFor : Command → StoreState → StoreState → Type 0
FilesFor (Deliver bytes) old new = Unit {0}
FilesFor (Remove number) old new = Unit {0}
FilesFor (Purge number) old new = (s : StoredEntry) × IsEntryOfNumber old number s
    × KeepsFiles old new s.seen.blob
FilesFor (Edit number bytes) old new = (s : StoredEntry) × IsEntryOfNumber old number s
    × EditsFiles old new s.seen.blob

-- A live number has a text, or none has it.
abbrev pub IsLiveOf : List Entry → List ℕ → Option ℕ → Type 0
IsLiveOf entries text None = (n : ℕ) → text_of entries n ≡ Some text → ⊥
IsLiveOf entries text (Some n) = text_of entries n ≡ Some text

-- The live number that a command, once accepted, takes with the text that it drops, if there is one. A
-- delivery and a removal drop no text.
abbrev pub IsGone : Archive → Command → Option ℕ → Type 0
IsGone a (Deliver bytes) gone = gone ≡ None
IsGone a (Remove number) gone = gone ≡ None
IsGone a (Purge number) gone = (text : List ℕ)
    × (text_of (messages a.entries) number ≡ Some text) × IsLiveOf (live a.entries) text gone
IsGone a (Edit number bytes) gone = gone ≡ Some number

-- The answer for an error of the store.
abbrev pub refusal_answer : StoreRefusal → Answer
refusal_answer refusal.DiskFault = answer.DiskFault
refusal_answer refusal.NoMemory = answer.NoMemory
refusal_answer (refusal.Damaged file offset) = answer.Damaged file offset

-- The answer that names the file and the offset of an entry that is damaged. It is asked only of an
-- entry that is there; of none it is that memory ran out.
abbrev pub damaged_place : StoreState → Option StoredEntry → Answer
damaged_place v None = answer.NoMemory
damaged_place v (Some e) = answer.Damaged (epoch_file_of v.root e.epoch) e.seen.at

-- The answer where the text of the entry at an index wasn't read.
abbrev pub unread_answer : StoreState → ℕ → TextRefusal → Answer
unread_answer v index unread.DiskFault = answer.DiskFault
unread_answer v index (unread.Damaged named found) = damaged_place v (slice_get v.entries index)
unread_answer v index unread.NoMemory = answer.NoMemory

-- The entry at an index has the own id of a text.
abbrev pub IsNamed : List StoredEntry → ℕ → List ℕ → Type 0
IsNamed entries index text = (e : StoredEntry) × (slice_get entries index ≡ Some e)
    × (own_id text ≡ Some e.seen.id)

-- A text has the size and the blob id of the entry at an index.
abbrev pub IsTextAt : List StoredEntry → ℕ → List ℕ → Type 0
IsTextAt entries index text = (e : StoredEntry) → slice_get entries index ≡ Some e
    → IsTextOf e text

-- The result of reading the text of the message with a number: it is that of each blob id of which the
-- message is the first entry. On the disk of an archive nothing is damaged.
abbrev pub ReadsMessage : Archive → ℕ → Result (List ℕ) Answer → Type 0
ReadsMessage a number (Ok text) = (blob : ObjectId)
    → blob_number a.config.form a.entries blob ≡ Some number
    → blob_text a.config.form a.entries blob ≡ Some text
ReadsMessage a number (Err answer.DiskFault) = Unit {0}
ReadsMessage a number (Err answer.NoMemory) = Unit {0}
ReadsMessage a number (Err other) = ⊥

-- A text that wasn't read: the disk failed, memory ran out, or the entry is damaged.
abbrev pub IsTextUnread : Answer → Type 0
IsTextUnread answer.DiskFault = Unit {0}
IsTextUnread answer.NoMemory = Unit {0}
IsTextUnread (answer.Damaged file at) = Unit {0}
IsTextUnread other = ⊥

-- The verdict is that a read failed.
abbrev pub IsFaultRead : Verdict → Type 0
IsFaultRead (Take text ids number) = ⊥
IsFaultRead (Refuse reply) = reply ≡ answer.DiskFault

-- The verdict is what the definition says of the delivery, unless a read failed.
abbrev pub JudgesRead : Archive → List ℕ → Verdict → Type 0
JudgesRead a bytes (Refuse answer.DiskFault) = Unit {0}
JudgesRead a bytes verdict = Judges a bytes verdict

-- No other text has the blob id of a text that is taken.
abbrev pub IsAlone : Archive → Verdict → Type 0
IsAlone a (Take text ids number) = collision a.config.form a.entries text ≡ None
IsAlone a (Refuse reply) = Unit {0}

-- An archive with all its entries, or without those of a text.
abbrev pub left_without : Archive → Option (List ℕ) → Archive
left_without a None = a
left_without a (Some text) = without_entries a text

-- The verdict on a delivery on the archive of an index, which has all entries or lacks those of a text,
-- is what the definition says of it, unless a read failed.
abbrev pub JudgesOn : {D : Type 0} → (D → Option Content) → D → StoreState → Index → List ℕ → Verdict
    → Type 0
JudgesOn content disk v index bytes verdict = (a : Archive) (cache : List ℕ) (gone : Option (List ℕ))
    → IsStoreWith v cache a (content disk)
    → IsArchiveIndex a.config.form (left_without a gone).entries index
    → JudgesRead (left_without a gone) bytes verdict × IsAlone (left_without a gone) verdict

-- The disk was read, and nothing else: its content is the same, and a crash leaves what it might have
-- left before.
pub record OnlyLooks {D : Type 0} (g : Disk D) (old new : D) : Type 0 where
  pub same : BothTold Unchanged (g.content old) (g.content new)
  pub crash : LeavesOnly g old new (Image (g.content old))

-- What a command promises, by its answer and the archive after it, of each archive before it. While
-- the root's sequence can be raised, at each moment a crash leaves the archive before the command or
-- the one after it, and the answer and the disk then are the wanted ones. After `Ok` all that reads
-- give is on the disk, and the root, in the other slot, goes on from the one before; a purge and an
-- edit keep the file of each epoch that loses no entry. Any other answer leaves what is kept in
-- memory, and, but for a fault, the content of the disk; one before which no text is read leaves the
-- disk as it was. The command fails only if the count of faults rose, and reads as often as the
-- command may. Damage is told with the place of an entry that was kept, or with a file that is too short.
pub record TakesCommand {D : Type 0} (g : Disk D) (old new : D)
    (before after : StoreState) (command : Command) (wanted : Archive → Done) (reply : Answer)
    : Type 0 where
  pub crash : (a : Archive) (cache : List ℕ) → IsStoreWith before cache a (g.content old)
      → before.root.sequence + 1 < 2 ^ 64
      → LeavesOnly g old new
      (RecoversOneOf cache a (cache_left command cache) (wanted a).archive)
  pub done : (a : Archive) (cache : List ℕ) → IsStoreWith before cache a (g.content old)
      → before.root.sequence + 1 < 2 ^ 64
      → DoneBy after cache (cache_left command cache) a (wanted a) reply (g.content new)
  pub settled : OnDone reply (WhereTold IsSettled (g.content new))
  pub goes_on : OnDone reply (GoesOnBy (way_of command) before.root after.root)
  pub files : OnDone reply (FilesFor command before after)
  pub slot : OnDone reply (after.slot ≡ 1 - before.slot)
  pub same : OnRefusal reply (after ≡ before)
  pub untouched : OnRefusal reply (UnlessFault reply (OnlyLooks g old new))
  pub unmoved : IfUnreadFor command reply (new ≡ old)
  pub sizes : UnlessFault reply (WhereTold (StoreHasSizes after) (g.content new))
  pub cause : RoseIf (reply ≡ answer.DiskFault) (g.faults old) (g.faults new)
  pub for_command : IsForCommand command reply
  pub count : ReadsFor command (g.reads old) (g.reads new)
  -- The root file has the new root in its slot, whose gate is open, and is otherwise as it was.
  pub rooted : OnDone reply
      (BothTold (HasNewRoot after.slot (spelling after.root)) (g.content old) (g.content new))
  -- At each moment, also after a fault, all its bytes are as before but those of that slot, into which at
  -- most one new root comes.
  pub crash_root : BeginsRootIn g (1 - before.slot) old new
  pub damage : TellsDamage before (g.content old) reply

-- The command delivers a message: it is a delivery or an edit.
abbrev pub is_delivery : Command → Bool
is_delivery (Deliver bytes) = true
is_delivery (Remove number) = false
is_delivery (Purge number) = false
is_delivery (Edit number bytes) = true

-- What holds of a command that delivers.
abbrev pub IfDelivery : Bool → Type 0 → Type 0
IfDelivery true P = P
IfDelivery false P = Unit {0}

-- What holds of a removal and a purge.
abbrev pub IfRemoval : Bool → Type 0 → Type 0
IfRemoval true P = Unit {0}
IfRemoval false P = P

-- The text of a delivery that was accepted is a storage text, and the answer has its blob id of a form.
-- Its content id comes with it.
abbrev pub TellsText : Form → Answer → KeptText → Type 0
TellsText form (answer.Ok number id) kept = IsStorageText kept.text × (id ≡ blob_id_of form kept.text)
    × (kept.content ≡ content_id_of kept.text)
TellsText form other kept = Unit {0}

-- An accepted delivery kept this text, as the last message after the archive before.
abbrev pub KeepsText : Archive → Done → ℕ → List ℕ → Type 0
KeepsText a wanted moment text = wanted.archive ≡ with_entry a (new_epoch a) text moment

-- The same of a command: an edit keeps it after the archive without the text that it drops.
abbrev pub KeepsTextFor : Command → Archive → Done → ℕ → List ℕ → Type 0
KeepsTextFor (Deliver bytes) a wanted moment text = KeepsText a wanted moment text
KeepsTextFor (Remove number) a wanted moment text = Unit {0}
KeepsTextFor (Purge number) a wanted moment text = Unit {0}
KeepsTextFor (Edit number bytes) a wanted moment text = (old : List ℕ)
    × (text_of (live a.entries) number ≡ Some old)
    × KeepsText (without_entries a old) wanted moment text
