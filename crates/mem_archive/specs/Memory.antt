-- What the archive in memory holds.
use Rattle.std.specs.Prelude.{◌≡◌, ◌≢◌, zero, suc, true, false, ◌&&◌, nat_le, option_map, ◌+◌, ◌-◌, ◌<◌, ◌≤◌, slice_get, ◌==◌, ◌||◌, nat_lt, ℕ, take, Bool, Result, Ok, Err, List, [], ◌∷◌, ◌++◌, length, Option, Some, None, IsSome, if◌then◌else◌}
use Rattle.arch_base.specs.Configs.{IsConfig}
use Rattle.arch_base.specs.declared.config.Config.{Config}
use Rattle.arch_base.specs.declared.ids.ObjectId.{ObjectId}
use Rattle.disk_model.specs.Sizes.{greatest_epoch}
use Rattle.arch_model.specs.Archives.{Entry, Archive, live, messages, text_of, in_epoch, has_entry, IsFree}
use Rattle.arch_model.specs.Validity.{number_after, Rise, AtEachPlace, EndsLive, LiveDiffer, BlobsAgree}
use Rattle.std.specs.List.{AllByRecursion}
use Rattle.arch_model.specs.Delivery.{greater, last_epoch, collision}
use Rattle.arch_model.specs.Epochs.{epoch_bytes, last_commit}
use Rattle.arch_model.specs.Shelves.{lines_after}
use Rattle.arch_model.specs.declared.line.EntryLine.{EntryLine}
use Rattle.git_objects.specs.Objects.{blob_id_of}
use Rattle.mail_commits.specs.Ids.{text_ids_of}
use Rattle.mail_reader.specs.Ids.{own_id}
use Rattle.mail_commits.specs.Entries.{commit_id, entry_bytes, magic}
use Rattle.git_objects.specs.declared.entry_kind.EntryKind.{EntryKind}
use Rattle.git_objects.specs.declared.entry_kind.EntryKind.TheVariants.{Message, Deletion}
use Rattle.mem_archive.specs.declared.kept.Kept.{Kept}
use Rattle.mem_archive.specs.declared.kept.KeptPlace.{KeptPlace}
use Rattle.mem_archive.specs.declared.kept.End.{End}
use Rattle.arch_base.specs.declared.sequence.NoMemory.{NoMemory}
use Rattle.arch_base.specs.declared.ids.Form.{Form}
use Rattle.arch_judge.specs.Indexes.{IsArchiveIndex}
use Rattle.arch_judge.specs.declared.index.Index.{Index}
use Rattle.arch_judge.specs.declared.judging.Verdict.{Verdict}
use Rattle.arch_judge.specs.declared.judging.Verdict.TheVariants.{Take, Refuse}

-- The entry that is kept so.
abbrev pub entry_of : Kept → Entry
entry_of k = record {
  kind = k.kind;
  number = k.number;
  epoch = k.epoch;
  text = k.text;
  moment = k.moment;
}

-- The entries that are kept so.
abbrev pub entries_of : List Kept → List Entry
entries_of [] = []
entries_of (k ∷ ks) = entry_of k ∷ entries_of ks

-- A kept entry without its text, with the blob id in a form.
abbrev pub line_of : Form → Kept → EntryLine
line_of form k = record {
  kind = k.kind;
  number = k.number;
  epoch = k.epoch;
  secs = k.moment;
  blob = blob_id_of form k.text;
  size = length k.text;
  commit = k.commit;
}

-- Kept entries without their texts, with blob ids in a form.
abbrev pub lines_of : Form → List Kept → List EntryLine
lines_of form [] = []
lines_of form (k ∷ ks) = line_of form k ∷ lines_of form ks

-- The archive of kept entries, whose messages have the places of the numbers from 1 on.
abbrev pub archive_of : Config → List Kept → List (Option KeptPlace) → Archive
archive_of config kept places =
    record { config = config; entries = entries_of kept; next = length places + 1 }

-- A place that may be there, of what may be there.
abbrev pub joined : Option (Option KeptPlace) → Option KeptPlace
joined None = None
joined (Some found) = found

-- The place of a number, from 1 on, if it has a message.
abbrev pub place_in : List (Option KeptPlace) → ℕ → Option KeptPlace
place_in places zero = None
place_in places (suc index) = joined (slice_get places index)

-- The text of the kept entry at an index.
abbrev pub text_in : List Kept → ℕ → Option (List ℕ)
text_in kept index = option_map (λ (k : Kept). k.text) (slice_get kept index)

-- The text at a place, if it is live.
abbrev pub shown_in : List Kept → Option KeptPlace → Option (List ℕ)
shown_in kept None = None
shown_in kept (Some place) = if place.live then text_in kept place.entry else None

-- The text at a place, live or not.
abbrev pub once_in : List Kept → Option KeptPlace → Option (List ℕ)
once_in kept None = None
once_in kept (Some place) = text_in kept place.entry

-- The place, if there is one, is live.
abbrev pub is_live_place : Option KeptPlace → Bool
is_live_place None = false
is_live_place (Some place) = place.live

-- The place of a number is live.
abbrev pub live_at : List (Option KeptPlace) → ℕ → Bool
live_at places number = is_live_place (place_in places number)

-- The least number from one on whose place is live, or none.
abbrev pub IsLeastAt : List (Option KeptPlace) → ℕ → Option ℕ → Type 0
IsLeastAt places n None = (m : ℕ) → n ≤ m → live_at places m ≡ false
IsLeastAt places n (Some found) = (n ≤ found) × (live_at places found ≡ true)
    × ((m : ℕ) → n ≤ m → m < found → live_at places m ≡ false)

-- The greatest number up to one whose place is live, or none.
abbrev pub IsGreatestAt : List (Option KeptPlace) → ℕ → Option ℕ → Type 0
IsGreatestAt places n None = (m : ℕ) → m ≤ n → live_at places m ≡ false
IsGreatestAt places n (Some found) = (found ≤ n) × (live_at places found ≡ true)
    × ((m : ℕ) → found < m → m ≤ n → live_at places m ≡ false)

-- How many of the places of the numbers from `n` on are live, of those between two numbers.
abbrev pub count_from : ℕ → ℕ → ℕ → List (Option KeptPlace) → ℕ
count_from n low high [] = 0
count_from n low high (found ∷ places) =
    if is_live_place found && (nat_le low n && nat_le n high) then suc (count_from (n + 1) low high places)
    else count_from (n + 1) low high places

-- The place has the index of a number's message, and tells whether the number is live.
pub record IsPlace (kept : List Kept) (number : ℕ) (place : KeptPlace) : Type 0 where
  pub text : List ℕ
  pub is_there : text_in kept place.entry ≡ Some text
  pub once : text_of (messages (entries_of kept)) number ≡ Some text
  pub shown : text_of (live (entries_of kept)) number ≡ (if place.live then Some text else None)

-- A number has its place, or no message.
abbrev pub IsKeptPlace : List Kept → ℕ → Option KeptPlace → Type 0
IsKeptPlace kept number None = text_of (messages (entries_of kept)) number ≡ None
IsKeptPlace kept number (Some place) = IsPlace kept number place

-- Each number from 1 on has its place, or no message.
abbrev pub ArePlaces : List Kept → List (Option KeptPlace) → Type 0
ArePlaces kept places =
    (i : ℕ) (found : Option KeptPlace) → slice_get places i ≡ Some found → IsKeptPlace kept (i + 1) found

-- The place, if there is one, no longer live.
abbrev pub hidden_place : Option KeptPlace → Option KeptPlace
hidden_place None = None
hidden_place (Some place) = Some (record { entry = place.entry; live = false })

-- The place at an index is no longer live, and each other place stays.
pub record Hides (old new : List (Option KeptPlace)) (at : ℕ) : Type 0 where
  pub size : length new ≡ length old
  pub here : (found : Option KeptPlace) → slice_get old at ≡ Some found
      → slice_get new at ≡ Some (hidden_place found)
  pub kept : (i : ℕ) → i ≢ at → slice_get new i ≡ slice_get old i

-- The number of an entry is at least one and at most so many.
abbrev pub IsNumberUpTo : ℕ → Entry → Type 0
IsNumberUpTo most e = (1 ≤ e.number) × (e.number < most + 1)

-- The text of an entry has an own id (RFC 5322, section 3.6.4).
abbrev pub HasId : Entry → Type 0
HasId e = IsSome (own_id e.text)

-- What may be kept: no live message has the text's own id, no other text has its blob id, and a
-- number is left. A text is never still to be compared.
abbrev pub MayKeep : Archive → Verdict → Type 0
MayKeep a (Take text ids number) = IsFree (live a.entries) text
    × (ids ≡ text_ids_of a.config.form text) × (collision a.config.form a.entries text ≡ None)
    × (a.next ≤ a.config.max) × (number ≡ a.next)
MayKeep a (Refuse reply) = Unit {0}

-- The end holds the room and the last commit of its epoch, whose objects have this form.
pub record IsEpochEnd (form : Form) (limit : ℕ) (entries : List Entry) (end_ : End) : Type 0 where
  pub room : end_.room ≡ limit - length (epoch_bytes form (in_epoch entries end_.epoch))
  pub parent : end_.parent ≡ last_commit form None (in_epoch entries end_.epoch)
  pub small : end_.epoch ≤ greatest_epoch

-- What is kept is sound: the settings are valid, no number is above the greatest, each has its
-- place or no message, numbers are from 1 to the last and rise, deletions end live messages, each
-- text has an own id, live ids differ at each place, each blob id of the settings' form has one text,
-- the index is that of the entries, each has the id of its commit, and the end is that of the last
-- epoch.
pub record IsKept (config : Config) (kept : List Kept) (places : List (Option KeptPlace)) (index : Index)
    (end_ : End) : Type 0 where
  pub settings : IsConfig config
  pub numbers : length places ≤ config.max
  pub placed : ArePlaces kept places
  pub numbered : AllByRecursion (IsNumberUpTo (length places)) (entries_of kept)
  pub order : Rise 1 0 (entries_of kept)
  pub deletions : AtEachPlace (λ (before : List Entry) (e : Entry). EndsLive e.kind before e) []
      (entries_of kept)
  pub ids : AtEachPlace LiveDiffer [] (entries_of kept)
  pub blobs : BlobsAgree config.form (entries_of kept)
  pub named : AllByRecursion HasId (entries_of kept)
  pub indexed : IsArchiveIndex config.form (entries_of kept) index
  pub lines : lines_of config.form kept ≡ lines_after config.form [] (entries_of kept)
  pub last : end_.epoch ≡ last_epoch (entries_of kept)
  pub ends : IsEpochEnd config.form config.limit (entries_of kept) end_

-- The bytes before those of an entry: the first bytes of an epoch of a form, if the entry has no
-- parent.
abbrev pub front_bytes : Form → Option ObjectId → List ℕ
front_bytes form None = magic form
front_bytes form (Some id) = []

-- The end to which a new entry is appended, if the last epoch has `room` bytes left.
abbrev pub end_by_room : ℕ → ℕ → End → End
end_by_room room limit end_ = if end_.epoch == greatest_epoch || nat_lt 0 room then end_
    else record { epoch = end_.epoch + 1; room = limit; parent = None }

-- The same, by the end's own room.
abbrev pub end_for_new : ℕ → End → End
end_for_new limit end_ = end_by_room end_.room limit end_

-- The end to which an entry of an epoch is appended.
abbrev pub end_in_epoch : ℕ → ℕ → End → End
end_in_epoch epoch limit end_ = if end_.epoch == epoch then end_
    else record { epoch = epoch; room = limit; parent = None }

-- The end after one more entry, whose objects have this form.
abbrev pub end_after : Form → End → EntryKind → List ℕ → ℕ → End
end_after form end_ kind text moment = record {
  epoch = end_.epoch;
  room = end_.room
      - length (front_bytes form end_.parent ++ entry_bytes form kind text moment end_.parent);
  parent = Some (commit_id form kind text moment end_.parent);
}

-- The new bytes start with the old ones.
abbrev pub BytesGrow : List ℕ → List ℕ → Type 0
BytesGrow old new = take (length old) new ≡ old

-- The bytes in a form of an epoch were appended, and it is told whether it has an entry. `NoMemory`
-- leaves the bytes unchanged.
abbrev pub GivesEpoch : Form → List ℕ → List ℕ → Result Bool NoMemory → List Entry → Type 0
GivesEpoch form old new (Ok found) entries = (new ≡ old ++ epoch_bytes form entries)
    × (found ≡ has_entry entries)
GivesEpoch form old new (Err refused) entries = new ≡ old

-- The number of a message isn't below the next one, and its own id is free. A deletion has the number
-- and the text of a live message.
abbrev pub IsNumberedAfter : EntryKind → Archive → Entry → Type 0
IsNumberedAfter Message a e = (a.next ≤ e.number) × (e.number ≤ a.config.max)
    × IsFree (live a.entries) e.text
IsNumberedAfter Deletion a e = text_of (live a.entries) e.number ≡ Some e.text

-- An entry may be appended again, in its epoch and under its number, where a text was left out: its
-- epoch isn't before the last one, and a message has a new number and a free own id, no other text has
-- its blob id, and a deletion ends a live message.
pub record EntryMayFollow (a : Archive) (e : Entry) : Type 0 where
  pub epoch : last_epoch a.entries ≤ e.epoch
  pub small : e.epoch ≤ greatest_epoch
  pub named : HasId e
  pub alone : collision a.config.form a.entries e.text ≡ None
  pub numbered : IsNumberedAfter e.kind a e

-- The archive with an entry appended as it is. A message's number may leave out others, which then
-- have no message.
abbrev pub appended_as : Archive → Entry → Archive
appended_as a e = record {
  config = a.config;
  entries = a.entries ++ e ∷ [];
  next = number_after e.kind a.next e.number;
}

-- The archive with another next number, if that is greater.
abbrev pub numbered_to : Archive → ℕ → Archive
numbered_to a next = record { config = a.config; entries = a.entries; next = greater a.next next }

-- The end and the commit after an entry that is appended so.
pub record IsEndAfter (a : Archive) (e : Entry) (commit : ObjectId) (end_ : End) : Type 0 where
  pub ends : IsEpochEnd a.config.form a.config.limit (a.entries ++ e ∷ []) end_
  pub epoch : end_.epoch ≡ e.epoch
  pub commit_is : commit ≡ commit_id a.config.form e.kind e.text e.moment
      (last_commit a.config.form None (in_epoch a.entries e.epoch))
