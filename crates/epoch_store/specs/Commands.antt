-- Which commands what is kept accepts, what they leave of it, and which files they keep.
use Rattle.std.specs.Prelude.{◌-◌, ◌^◌, min, Bool, not, ◌&&◌, ◌||◌, ◌≡◌, ◌≢◌, ◌⊎◌, ◌+◌, ◌<◌, ◌≤◌, ◌==◌, ℕ, false, List, [], ◌∷◌, ◌++◌, length, get_or, Option, Some, None, if◌then◌else◌, Result, Ok, Err}
use Rattle.std.specs.List.{AllZip, Contains}
use Rattle.arch_base.specs.Ids.{form_of}
use Rattle.arch_base.specs.declared.ids.ObjectId.{ObjectId}
use Rattle.arch_base.specs.declared.ids.Form.{Form}
use Rattle.disk_model.specs.Disk.{Files, Content, bytes_of}
use Rattle.disk_model.specs.Sizes.{epoch_count}
use Rattle.mail_reader.specs.StorageTexts.{IsStorageText}
use Rattle.mail_reader.specs.Ids.{own_id}
use Rattle.git_objects.specs.Objects.{blob_id_of}
use Rattle.arch_model.specs.Archives.{Entry, Archive, is_message, without_text, live, messages, text_of, IsFree, in_epoch}
use Rattle.arch_model.specs.Delivery.{new_epoch}
use Rattle.arch_model.specs.Epochs.{epoch_bytes, last_commit}
use Rattle.git_objects.specs.declared.entry_kind.EntryKind.TheVariants.{Message, Deletion}
use Rattle.mail_reader.specs.Content.{content_id_of}
use Rattle.epoch_file.specs.declared.refusal.StoreRefusal.{StoreRefusal}
use Rattle.epoch_file.specs.declared.refusal.StoreRefusal.TheVariants.{DiskFault}
use Rattle.root_slots.specs.declared.root.Root.{Root}
use Rattle.root_slots.specs.Slots.{HasRootSize}
use Rattle.root_slots.specs.Valid.{no_place}
use Rattle.store_finding.specs.declared.entries.StoredEntry.{StoredEntry}
use Rattle.store_planning.specs.declared.next.NextPlace.{NextPlace}
use Rattle.store_finding.specs.Files.{map_file_of, epoch_file_of}
use Rattle.store_finding.specs.Recovery.{bytes_in, RecoversWith}
use Rattle.store_finding.specs.Kept.{StoreState, KeepsArchive}
use Rattle.store_planning.specs.Dropping.{without_blob, KeptOf}

-- Files stand for one archive, with a cache of these bytes, or for another one with one of those.
abbrev pub RecoversOneOf : List ℕ → Archive → List ℕ → Archive → Files → Type 0
RecoversOneOf cache a left b image = RecoversWith cache image a ⊎ RecoversWith left image b

-- Files stand for one archive or the other, with a cache of these bytes.
abbrev pub RecoversEitherWith : List ℕ → Archive → Archive → Files → Type 0
RecoversEitherWith cache a b image = RecoversOneOf cache a cache b image

-- The same without a byte of a cache.
abbrev pub RecoversEither : Archive → Archive → Files → Type 0
RecoversEither a b image = RecoversEitherWith [] a b image

-- The files that a store names have at least their sizes: the root file its own, and map and epochs
-- those that the root names.
pub record StoreHasSizes (v : StoreState) (k : Content) : Type 0 where
  pub root : HasRootSize k
  pub map_long : v.root.map.length ≤ length (bytes_of (k (map_file_of v.root)).seen)
  pub epochs_long : (e : ℕ) → e < epoch_count → (get_or v.root.epochs e no_place).length
      ≤ length (bytes_of (k (epoch_file_of v.root e)).seen)

-- One of the entries that are kept is the deletion of a number.
abbrev pub is_ended_in : List StoredEntry → ℕ → Bool
is_ended_in [] n = false
is_ended_in (e ∷ es) n = (not (is_message e.seen.kind) && e.number == n) || is_ended_in es n

-- The live ones of the entries that are kept: the messages that no later entry ends.
abbrev pub live_kept : List StoredEntry → List StoredEntry
live_kept [] = []
live_kept (e ∷ es) =
    if is_message e.seen.kind && not (is_ended_in es e.number) then e ∷ live_kept es
    else live_kept es

-- A new text would be accepted by what is kept: the archive is no mirror and has a number left, the
-- text is a storage text, and no live message of the archive has its own id.
pub record Accepts (v : StoreState) (text : List ℕ) : Type 0 where
  pub writable : v.root.config.mirror ≡ false
  pub number_left : v.root.next ≤ v.root.config.max
  pub storage : IsStorageText text
  pub id : (a : Archive) → KeepsArchive v a → IsFree (live a.entries) text

-- A removal would be accepted by what is kept: the archive is no mirror, and a live entry has the
-- number, and the own id and the blob id of the text.
pub record MayEnd (v : StoreState) (number : ℕ) (text : List ℕ) : Type 0 where
  pub writable : v.root.config.mirror ≡ false
  pub entry : StoredEntry
  pub is_live : Contains (live_kept v.entries) entry
  pub number_is : entry.number ≡ number
  pub id : own_id text ≡ Some entry.seen.id
  pub blob : blob_id_of (form_of entry.seen.blob) text ≡ entry.seen.blob

-- Where the next entry of an archive is written: its epoch, and the file of that epoch, after its
-- bytes and its last commit. If the epoch has no bytes, it is a new file of this generation.
pub record IsNextPlace (root : Root) (a : Archive) (new_gen : ℕ) (p : NextPlace) : Type 0 where
  pub epoch : p.epoch ≡ new_epoch a
  pub length_is : p.length ≡ length (bytes_in a p.epoch)
  pub old : bytes_in a p.epoch ≢ [] → p.generation ≡ (get_or root.epochs p.epoch no_place).generation
  pub new : bytes_in a p.epoch ≡ [] → p.generation ≡ new_gen
  pub parent : p.parent ≡ last_commit a.config.form None (in_epoch a.entries p.epoch)

-- Entries end at this place in a form: the bytes of its epoch are so long, and this is its last commit.
pub record EntriesEndAt (form : Form) (before : List Entry) (p : NextPlace) : Type 0 where
  pub length_is : p.length ≡ length (epoch_bytes form (in_epoch before p.epoch))
  pub parent : p.parent ≡ last_commit form None (in_epoch before p.epoch)

-- One more, up to 2^64 - 1.
abbrev pub next_sequence : ℕ → ℕ
next_sequence n = min (n + 1) (2 ^ 64 - 1)

-- The place after the bytes of an epoch of a root, or at the front of a new file.
abbrev pub place_of : Root → ℕ → Option ObjectId → NextPlace
place_of root epoch parent = record {
  epoch = epoch;
  generation = if (get_or root.epochs epoch no_place).length == 0 then next_sequence root.sequence
      else (get_or root.epochs epoch no_place).generation;
  length = (get_or root.epochs epoch no_place).length;
  parent = parent;
}

-- One more message follows the entries that were kept. It has the next number and the ids of a text.
-- The next number is one more, and the settings stay.
pub record AddsEntry (old new : StoreState) (text : List ℕ) : Type 0 where
  pub entry : StoredEntry
  pub entries : new.entries ≡ old.entries ++ entry ∷ []
  pub kind : entry.seen.kind ≡ Message
  pub number : entry.number ≡ old.root.next
  pub id : own_id text ≡ Some entry.seen.id
  pub blob : entry.seen.blob ≡ blob_id_of old.root.config.form text
  pub content : entry.seen.content ≡ content_id_of text
  pub next : new.root.next ≡ old.root.next + 1
  pub config : new.root.config ≡ old.root.config

-- The deletion of a number follows the entries that were kept. It has the ids of a text. The next
-- number and the settings stay.
pub record EndsEntry (old new : StoreState) (number : ℕ) (text : List ℕ) : Type 0 where
  pub entry : StoredEntry
  pub entries : new.entries ≡ old.entries ++ entry ∷ []
  pub kind : entry.seen.kind ≡ Deletion
  pub number_is : entry.number ≡ number
  pub id : own_id text ≡ Some entry.seen.id
  pub blob : entry.seen.blob ≡ blob_id_of old.root.config.form text
  pub content : entry.seen.content ≡ content_id_of text
  pub next : new.root.next ≡ old.root.next
  pub config : new.root.config ≡ old.root.config

-- What holds of an error, unless the disk failed.
abbrev pub UnlessFailed : {T : Type 0} → Result T StoreRefusal → Type 0 → Type 0
UnlessFailed (Ok given) P = Unit {0}
UnlessFailed (Err DiskFault) P = Unit {0}
UnlessFailed _ P = P

-- A root goes on from another one. Its sequence is one more, and the settings stay. The map and the
-- cache stay in their files. Each epoch stays in its file, or has its first bytes in a file whose
-- generation is the new sequence.
pub record RootGoesOn (old new : Root) : Type 0 where
  pub sequence : new.sequence ≡ next_sequence old.sequence
  pub config : new.config ≡ old.config
  pub map : new.map.generation ≡ old.map.generation
  pub cache : new.cache ≡ old.cache
  pub epochs : (e : ℕ) → e < epoch_count
      → (get_or new.epochs e no_place ≡ get_or old.epochs e no_place)
      ⊎ (((0 < (get_or old.epochs e no_place).length)
      × ((get_or new.epochs e no_place).generation ≡ (get_or old.epochs e no_place).generation))
      ⊎ (((get_or old.epochs e no_place).length ≡ 0)
      × ((get_or new.epochs e no_place).generation ≡ new.sequence)))

-- A purge would be accepted by what is kept: the archive is no mirror, and an entry is the message
-- with the number and has this blob id.
pub record MayPurge (v : StoreState) (number : ℕ) (blob : ObjectId) : Type 0 where
  pub writable : v.root.config.mirror ≡ false
  pub entry : StoredEntry
  pub is_there : Contains v.entries entry
  pub kind : entry.seen.kind ≡ Message
  pub number_is : entry.number ≡ number
  pub blob_is : entry.seen.blob ≡ blob

-- What is kept of an edit that would be accepted: a purge would be, a number is left, the new text is a
-- storage text, and no live message of the archive without the old text has its own id.
pub record MayEdit (v : StoreState) (number : ℕ) (blob : ObjectId) (text : List ℕ) : Type 0 where
  pub purge : MayPurge v number blob
  pub number_left : v.root.next ≤ v.root.config.max
  pub storage : IsStorageText text
  pub id : (a : Archive) (n : ℕ) (old : List ℕ) → KeepsArchive v a
      → text_of (messages a.entries) n ≡ Some old → blob_id_of a.config.form old ≡ blob
      → IsFree (live (without_text a.entries old)) text

-- What a purge leaves of what is kept: the entries but those with a blob id, in order. The next number
-- and the settings stay.
pub record DropsEntries (old new : StoreState) (blob : ObjectId) : Type 0 where
  pub entries : AllZip KeptOf (without_blob old.entries blob) new.entries
  pub next : new.root.next ≡ old.root.next
  pub config : new.root.config ≡ old.root.config

-- What an edit leaves of what is kept: the entries but those with a blob id, and one more message with
-- the next number and the ids of a text.
pub record EditsEntries (old new : StoreState) (blob : ObjectId) (text : List ℕ) : Type 0 where
  pub front : List StoredEntry
  pub entry : StoredEntry
  pub entries : new.entries ≡ front ++ entry ∷ []
  pub kept : AllZip KeptOf (without_blob old.entries blob) front
  pub kind : entry.seen.kind ≡ Message
  pub number : entry.number ≡ old.root.next
  pub id : own_id text ≡ Some entry.seen.id
  pub blob_is : entry.seen.blob ≡ blob_id_of old.root.config.form text
  pub content : entry.seen.content ≡ content_id_of text
  pub next : new.root.next ≡ old.root.next + 1
  pub config : new.root.config ≡ old.root.config

-- A root goes on from another one whose parts were written anew. Its sequence is one more, the settings
-- stay, the map is in a file of that generation, and there is no cache. Each epoch stays in its file,
-- or is in one of that generation, or has none.
pub record GoesOnAnew (old new : Root) : Type 0 where
  pub sequence : new.sequence ≡ old.sequence + 1
  pub config : new.config ≡ old.config
  pub map : new.map.generation ≡ new.sequence
  pub cache : new.cache ≡ no_place
  pub epochs : (e : ℕ) → e < epoch_count
      → ((get_or new.epochs e no_place).generation ≡ (get_or old.epochs e no_place).generation)
      ⊎ (((get_or new.epochs e no_place).generation ≡ new.sequence)
      ⊎ (get_or new.epochs e no_place ≡ no_place))

-- An epoch has an entry with a blob id.
abbrev pub HasBlob : List StoredEntry → ObjectId → ℕ → Type 0
HasBlob entries blob epoch = (e : StoredEntry) × Contains entries e × (e.epoch ≡ epoch)
    × (e.seen.blob ≡ blob)

-- An epoch is in a file whose generation is the root's sequence, or it has no file.
abbrev pub IsMadeAnew : Root → ℕ → Type 0
IsMadeAnew root epoch = ((get_or root.epochs epoch no_place).generation ≡ root.sequence)
    ⊎ (get_or root.epochs epoch no_place ≡ no_place)

-- Which files a purge keeps. Each epoch without an entry with the blob id stays in its file, which is as
-- long as before. Each other one is in a new file, or has none.
pub record KeepsFiles (old new : StoreState) (blob : ObjectId) : Type 0 where
  pub kept : (e : ℕ) → e < epoch_count → (HasBlob old.entries blob e → ⊥)
      → get_or new.root.epochs e no_place ≡ get_or old.root.epochs e no_place
  pub anew : (e : ℕ) → e < epoch_count → HasBlob old.entries blob e → IsMadeAnew new.root e

-- An epoch's file stays and is longer. If the epoch had none, it is in a new one.
abbrev pub EpochFileGrows : Root → Root → ℕ → Type 0
EpochFileGrows old new epoch = ((0 < (get_or old.epochs epoch no_place).length)
    × ((get_or new.epochs epoch no_place).generation ≡ (get_or old.epochs epoch no_place).generation)
    × ((get_or old.epochs epoch no_place).length < (get_or new.epochs epoch no_place).length))
    ⊎ (((get_or old.epochs epoch no_place).length ≡ 0)
    × ((get_or new.epochs epoch no_place).generation ≡ new.sequence))

-- Which files an edit keeps: those that a purge keeps. But that of the epoch of the new entry, which is
-- the last one, grows, unless the epoch loses an entry.
pub record EditsFiles (old new : StoreState) (blob : ObjectId) : Type 0 where
  pub front : List StoredEntry
  pub entry : StoredEntry
  pub entries : new.entries ≡ front ++ entry ∷ []
  pub kept : (e : ℕ) → e < epoch_count → e ≢ entry.epoch → (HasBlob old.entries blob e → ⊥)
      → get_or new.root.epochs e no_place ≡ get_or old.root.epochs e no_place
  pub grown : (HasBlob old.entries blob entry.epoch → ⊥) → EpochFileGrows old.root new.root entry.epoch
  pub anew : (e : ℕ) → e < epoch_count → HasBlob old.entries blob e → IsMadeAnew new.root e
