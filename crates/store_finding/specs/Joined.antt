-- How the entries of the epochs are joined to the records of a map.
use Rattle.std.specs.Prelude.{◌≡◌, ◌⊎◌, ◌+◌, ◌<◌, ◌≤◌, ℕ, Bool, true, take, drop, List, [], ◌∷◌, ◌++◌, length, map, slice_get, Option, Some, None, Result, Ok, Err}
use Rattle.std.specs.List.{AllByRecursion, filter}
use Rattle.std.specs.Str.{bytes_eq}
use Rattle.arch_base.specs.declared.ids.Form.{Form}
use Rattle.arch_base.specs.declared.ids.ObjectId.{ObjectId}
use Rattle.disk_model.specs.Sizes.{epoch_count}
use Rattle.arch_model.specs.Epochs.{entries_bytes}
use Rattle.arch_model.specs.Archives.{Entry, is_message, live, owner, blob_number}
use Rattle.git_objects.specs.Objects.{blob_id_of}
use Rattle.git_objects.specs.declared.entry_kind.EntryKind.{EntryKind}
use Rattle.git_objects.specs.declared.entry_kind.EntryKind.TheVariants.{Message, Deletion}
use Rattle.arch_judge.specs.Indexes.{number_in, owner_in}
use Rattle.arch_judge.specs.declared.index.Index.{Index}
use Rattle.arch_judge.specs.declared.index.Owner.{Owner}
use Rattle.disk_model.specs.Disk.{Files, bytes_of}
use Rattle.root_slots.specs.declared.root.Root.{Root}
use Rattle.root_change.specs.Texts.{Fronts}
use Rattle.store_finding.specs.Files.{epoch_file_of}
use Rattle.number_map.specs.declared.line.Record.{Record}
use Rattle.number_map.specs.Records.{AreRecordsFrom}
use Rattle.epoch_file.specs.declared.entry.Seen.{Seen}
use Rattle.epoch_file.specs.Entries.{EpochEntry, AreEpochEntries, epoch_of}
use Rattle.epoch_file.specs.Walking.{seen_from}
use Rattle.store_finding.specs.declared.entries.StoredEntry.{StoredEntry}
use Rattle.store_finding.specs.declared.join_refusal.JoinRefusal.{JoinRefusal}
use Rattle.store_finding.specs.declared.join_refusal.JoinRefusal.TheVariants.{NoMemory, DiskFault, Damaged}
use Rattle.store_finding.specs.declared.join_refusal.Unmatched.{Unmatched}
use Rattle.store_finding.specs.Kept.{in_file, stored_after}
use Rattle.store_finding.specs.Damage.{messages, AreFirst, AreWhole}

-- The records of a map that have a message, and what is kept of the entries so far.
pub record JoinedEntries : Type 0 where
  pub records : List Record
  pub entries : List StoredEntry

-- The records are those of a valid map of a form that have a message, the entries are these, and
-- their records are the first of them, followed by the others.
pub record HoldsJoined (form : Form) (v : JoinedEntries) (rs after : List Record) (entries : List Entry)
    : Type 0 where
  pub numbered : AreRecordsFrom form 1 rs
  pub records : v.records ≡ messages rs
  pub entries_are : v.entries ≡ stored_after form [] entries
  pub first : AreFirst form rs after entries

-- What is so of a form and the entries if these are those of the first records of a map of the form.
abbrev pub OfJoined : JoinedEntries → (Form → List Entry → Type 0) → Type 0
OfJoined v P = (form : Form) (rs after : List Record) (entries : List Entry)
    → HoldsJoined form v rs after entries → P form entries

-- How many of the entries that are kept are messages.
abbrev pub message_count : List StoredEntry → ℕ
message_count entries = length (filter (λ (e : StoredEntry). is_message e.seen.kind) entries)

-- The text of an entry is these bytes of its epoch's file.
abbrev pub TextIn : List ℕ → Seen → List ℕ → Type 0
TextIn file seen text = (seen.text_at + seen.size ≤ length file)
    × (text ≡ take seen.size (drop seen.text_at file))

-- All entries so far are in epochs before this one.
abbrev pub AreBefore : ℕ → List StoredEntry → Type 0
AreBefore epoch entries = AllByRecursion (λ (e : StoredEntry). e.epoch < epoch) entries

-- All records have an epoch.
abbrev pub HaveEpochs : List Record → Type 0
HaveEpochs records = (i : ℕ) (r : Record) → slice_get records i ≡ Some r → r.epoch < epoch_count

-- What is kept of an entry that is joined to others with this number.
abbrev pub entry_seen : ℕ → ℕ → Seen → StoredEntry
entry_seen number epoch seen = record { number = number; epoch = epoch; seen = seen }

-- The next record of a message is that of an entry of this epoch, and has this number; the entry is
-- a message.
pub record IsWantedRecord (v : JoinedEntries) (epoch : ℕ) (seen : Seen) (number : ℕ) : Type 0 where
  pub message : seen.kind ≡ Message
  pub next : slice_get v.records (message_count v.entries)
      ≡ Some (record { number = number; epoch = epoch; blob = seen.blob })

-- The results of asking for an entry: its number, or that it isn't the next.
abbrev pub Wants : JoinedEntries → ℕ → Seen → Option ℕ → Type 0
Wants v epoch seen (Some number) = IsWantedRecord v epoch seen number
Wants v epoch seen None = (number : ℕ) → IsWantedRecord v epoch seen number → ⊥

-- A kept entry is the message of a number.
pub record IsMessageOf (kept : List StoredEntry) (number : ℕ) (entry : StoredEntry) : Type 0 where
  pub index : ℕ
  pub among : slice_get kept index ≡ Some entry
  pub message : entry.seen.kind ≡ Message
  pub number_is : entry.number ≡ number

-- Numbers of records rise.
abbrev pub NumbersRise : List Record → Type 0
NumbersRise records = (i j : ℕ) (r s : Record) → i < j → slice_get records i ≡ Some r
    → slice_get records j ≡ Some s → r.number < s.number

-- A number has this record, whose message is among the entries so far.
pub record IsRecorded (v : JoinedEntries) (number : ℕ) (line : Record) : Type 0 where
  pub index : ℕ
  pub before : index < message_count v.entries
  pub there : slice_get v.records index ≡ Some line
  pub number_is : line.number ≡ number

-- The message of the record at an index is the entry at another one.
pub record IsJoinedAt (v : JoinedEntries) (index at : ℕ) : Type 0 where
  pub entry : StoredEntry
  pub line : Record
  pub among : slice_get v.entries at ≡ Some entry
  pub recorded : slice_get v.records index ≡ Some line
  pub message : entry.seen.kind ≡ Message
  pub number : entry.number ≡ line.number
  pub blob : entry.seen.blob ≡ line.blob

-- Each number that an index names has a record whose message is among the entries so far, with the
-- blob id under which it is named.
pub record IndexesRecords (v : JoinedEntries) (index : Index) : Type 0 where
  pub owners : (id : List ℕ) (o : Owner) → owner_in index.owners id ≡ Some o
      → (line : Record) × IsRecorded v o.number line
  pub blobs : (blob : ObjectId) (n : ℕ) → number_in index.blobs blob ≡ Some n
      → (line : Record) × IsRecorded v n line × (line.blob ≡ blob)

-- The records rise, the messages of the first of them are the entries at these indexes, and an index
-- names none but these.
pub record IsJoining (v : JoinedEntries) (places : List ℕ) (index : Index) : Type 0 where
  pub rise : NumbersRise v.records
  pub placed : (i at : ℕ) → slice_get places i ≡ Some at → IsJoinedAt v i at
  pub indexes : IndexesRecords v index

-- The indexes of messages with one more entry, of either kind, at an index.
abbrev pub places_with : EntryKind → List ℕ → ℕ → List ℕ
places_with Message places at = places ++ at ∷ []
places_with Deletion places at = places

-- A message joins others: it is the map's next one, and no live entry has its own id.
pub record JoinsMessage (v : JoinedEntries) (all : List Entry) (epoch : ℕ) (seen : Seen) (number : ℕ)
    : Type 0 where
  pub wanted : IsWantedRecord v epoch seen number
  pub id : owner (live all) seen.id ≡ None

-- A deletion joins others: the live entry with its own id has its blob id, too, in a form, and this
-- number.
pub record JoinsDeletion (form : Form) (all : List Entry) (seen : Seen) (number : ℕ) : Type 0 where
  pub deletion : seen.kind ≡ Deletion
  pub ended : Entry
  pub live : owner (live all) seen.id ≡ Some ended
  pub blob : blob_id_of form ended.text ≡ seen.blob
  pub number_is : ended.number ≡ number

-- The number of the message that a deletion ends, or that it ends none.
abbrev pub EndedBy : Form → List Entry → Seen → Option ℕ → Type 0
EndedBy form all seen (Some number) = JoinsDeletion form all seen number
EndedBy form all seen None = (number : ℕ) → JoinsDeletion form all seen number → ⊥

-- An entry joins others, and an older one with its blob id, if there is one, has the same text.
abbrev pub JoinsNext : Form → JoinedEntries → List Entry → ℕ → Seen → Bool → ℕ → Type 0
JoinsNext form v all epoch seen same number = (same ≡ true)
    × (JoinsMessage v all epoch seen number ⊎ JoinsDeletion form all seen number)

-- An older entry has the blob id of an entry. Where its text was read, and where the entry has its
-- own: whether the two are the same.
pub record IsCompared (root : Root) (files : Files) (kept : List StoredEntry) (epoch : ℕ)
    (seen : Seen) (same : Bool) : Type 0 where
  pub older : StoredEntry
  pub index : ℕ
  pub among : slice_get kept index ≡ Some older
  pub blob : older.seen.blob ≡ seen.blob
  pub is : (old new : List ℕ)
      → TextIn (bytes_of (files (epoch_file_of root older.epoch))) older.seen old
      → TextIn (bytes_of (files (epoch_file_of root epoch))) seen new
      → same ≡ bytes_eq old new

-- No older entry has the blob id of an entry, or the text of one that has it was compared.
abbrev pub IsSameText : Form → Root → Files → JoinedEntries → List Entry → ℕ → Seen → Bool → Type 0
IsSameText form root files v all epoch seen same =
    ((blob_number form all seen.blob ≡ None) × (same ≡ true))
    ⊎ IsCompared root files v.entries epoch seen same

-- The result of comparing an entry's text with that of an older entry with its blob id.
abbrev pub ComparesText : Root → JoinedEntries → ℕ → Seen → Result Bool JoinRefusal → Files → Type 0
ComparesText root v epoch seen (Ok same) files =
    OfJoined v (λ (form : Form) (all : List Entry). IsSameText form root files v all epoch seen same)
ComparesText root v epoch seen (Err (Damaged at)) files = ⊥
ComparesText root v epoch seen (Err _) files = Unit {0}

-- The entries with one more joined.
abbrev pub with_seen : JoinedEntries → ℕ → ℕ → Seen → JoinedEntries
with_seen v number epoch seen =
    record { records = v.records; entries = v.entries ++ entry_seen number epoch seen ∷ [] }

-- One more entry was joined, with some number.
abbrev pub IsGrown : JoinedEntries → ℕ → Seen → JoinedEntries → Type 0
IsGrown old epoch seen new = (number : ℕ) × (new ≡ with_seen old number epoch seen)

-- An entry was joined, as one that may be, or can't be and its offset is the result.
abbrev pub JoinsOne : JoinedEntries → ℕ → Seen → Bool → Result JoinedEntries JoinRefusal → Type 0
JoinsOne old epoch seen same (Ok new) = (number : ℕ) × (new ≡ with_seen old number epoch seen)
    × OfJoined old (λ (form : Form) (all : List Entry). JoinsNext form old all epoch seen same number)
JoinsOne old epoch seen same (Err (Damaged at)) = (at ≡ seen.at)
    × OfJoined old (λ (form : Form) (all : List Entry). (number : ℕ)
    → JoinsNext form old all epoch seen same number → ⊥)
JoinsOne old epoch seen same (Err DiskFault) = ⊥
JoinsOne old epoch seen same (Err NoMemory) = Unit {0}

-- The same where the texts are read.
abbrev pub JoinsByText : Root → JoinedEntries → ℕ → Seen → Result JoinedEntries JoinRefusal → Files → Type 0
JoinsByText root old epoch seen (Err (Damaged at)) files =
    (same : Bool) × ComparesText root old epoch seen (Ok same) files
    × JoinsOne old epoch seen same (Err (Damaged at))
JoinsByText root old epoch seen (Ok new) files =
    (same : Bool) × ComparesText root old epoch seen (Ok same) files
    × JoinsOne old epoch seen same (Ok new)
JoinsByText root old epoch seen (Err _) files = Unit {0}

-- The entries of an epoch are all joined to others, in a form.
pub record AreJoined (form : Form) (new : JoinedEntries) (rs : List Record) (others : List Entry)
    (epoch : ℕ) (here : List EpochEntry) : Type 0 where
  pub more : List Entry
  pub after : List Record
  pub stand : AllByRecursion (λ (e : Entry). e.epoch ≡ epoch) more
  pub are : here ≡ map in_file more
  pub holds : HoldsJoined form new rs after (others ++ more)

-- Some first entries of an epoch can be joined to others, in a form, and the one after them, at this
-- offset, can't: as a message it isn't the map's next one or its own id is live, as a deletion it ends
-- nothing that is live, or an older entry with its blob id has another text.
pub record StopsAt (form : Form) (rs : List Record) (others : List Entry) (epoch : ℕ)
    (here : List EpochEntry) (offset : ℕ) : Type 0 where
  pub more : List Entry
  pub after : List Record
  pub wrong : EpochEntry
  pub rest : List EpochEntry
  pub stand : AllByRecursion (λ (e : Entry). e.epoch ≡ epoch) more
  pub are : here ≡ map in_file more ++ wrong ∷ rest
  pub first : AreFirst form rs after (others ++ more)
  pub offset_is : offset ≡ 8 + length (entries_bytes form None more)
  pub no_next : (next : Entry) (left : List Record) → next.epoch ≡ epoch → in_file next ≡ wrong
      → AreFirst form rs left ((others ++ more) ++ next ∷ []) → ⊥

-- The results of joining the entries of an epoch: all of them, or the offset of the first one that
-- can't be joined.
abbrev pub JoinsAll : Form → List Record → List Entry → ℕ → List EpochEntry
    → Result JoinedEntries JoinRefusal → Type 0
JoinsAll form rs others epoch here (Ok new) = AreJoined form new rs others epoch here
JoinsAll form rs others epoch here (Err (Damaged at)) = StopsAt form rs others epoch here at
JoinsAll form rs others epoch here (Err _) = Unit {0}

-- The same in the form of a root's settings, for whatever is joined before, and for whatever entries
-- the epoch's file has that were recorded so. The epochs before it are whole, so that their texts are
-- read.
abbrev pub TakesEpoch : Root → JoinedEntries → ℕ → List Seen → Result JoinedEntries JoinRefusal
    → Files → Type 0
TakesEpoch root old epoch seen result files =
    (rs after : List Record) (others : List Entry) (here : List EpochEntry)
    → HoldsJoined root.config.form old rs after others → AreWhole root files epoch others
    → Fronts (epoch_of root.config.form here) (files (epoch_file_of root epoch))
    → AreEpochEntries here → seen ≡ seen_from root.config.form 8 None here
    → JoinsAll root.config.form rs others epoch here result

-- All records of the map that have a message have an entry, and this is what is kept; or the first
-- one without an entry should be in this epoch.
abbrev pub FinishesJoin : JoinedEntries → Result (List StoredEntry) Unmatched → Type 0
FinishesJoin v (Ok kept) = (form : Form) (rs after : List Record) (entries : List Entry)
    → HoldsJoined form v rs after entries
    → (kept ≡ stored_after form [] entries) × AreFirst form rs [] entries
FinishesJoin v (Err refusal) = (form : Form) (rs after : List Record) (entries : List Entry)
    → HoldsJoined form v rs after entries → (next : Record) × (left : List Record)
    × AreFirst form rs (next ∷ left) entries × (next.epoch ≡ refusal.epoch)
