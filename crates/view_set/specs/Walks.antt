-- What a walk through entries makes of the rows of live messages.
use Rattle.std.specs.Prelude.{◌≡◌, ◌≢◌, ◌+◌, ◌<◌, ℕ, List, [], ◌∷◌, Some, slice_get, Result, Ok, Err}
use Rattle.arch_base.specs.declared.ids.Form.{Form}
use Rattle.arch_base.specs.declared.ids.ObjectId.{ObjectId}
use Rattle.git_objects.specs.declared.entry_kind.EntryKind.{EntryKind}
use Rattle.git_objects.specs.declared.entry_kind.EntryKind.TheVariants.{Message, Deletion}
use Rattle.arch_model.specs.Archives.{Entry}
use Rattle.arch_model.specs.Rows.{row_of}
use Rattle.arch_model.specs.Shelves.{ReadingWhy, IsUndamaged}
use Rattle.arch_model.specs.Walking.{HasTextAt}
use Rattle.arch_model.specs.declared.line.EntryLine.{EntryLine}
use Rattle.arch_model.specs.declared.text_refusal.TextRefusal.{TextRefusal}
use Rattle.arch_model.specs.declared.text_refusal.TextRefusal.TheVariants as refusal
use Rattle.mime_parts.specs.Words.{mail_words}
use Rattle.view_set.specs.Viewed.{Viewed, with_mail}
use Rattle.view_set.specs.declared.rebuilding.Unread.{Unread}

-- Why a text of what is walked through wasn't read, or that memory ran out.
abbrev pub WalkWhy : {T : Type 0} → ℕ → ℕ → Result T Unread → Type 0
WalkWhy before now (Ok rows) = now ≡ before
WalkWhy before now (Err unread) = ReadingWhy before now unread.why

-- No text was damaged.
abbrev pub WalksUndamaged : {T : Type 0} → Result T Unread → Type 0
WalksUndamaged (Ok rows) = Unit {0}
WalksUndamaged (Err unread) = IsUndamaged unread.why

-- The entry at which the walk stopped is there.
abbrev pub StopsWithin : {T : Type 0} → ℕ → Result T Unread → Type 0
StopsWithin count (Ok rows) = Unit {0}
StopsWithin count (Err unread) = unread.index < count

-- A damaged text is told by this blob id, and by another one of what was found.
abbrev pub NamesBlob : ObjectId → TextRefusal → Type 0
NamesBlob blob refusal.DiskFault = Unit {0}
NamesBlob blob (refusal.Damaged named found) = (named ≡ blob) × (found ≢ named)
NamesBlob blob refusal.NoMemory = Unit {0}

-- A damaged text is that of the message at this index.
abbrev pub IsDamagedTextAt : List EntryLine → ℕ → TextRefusal → Type 0
IsDamagedTextAt lines index refusal.DiskFault = Unit {0}
IsDamagedTextAt lines index (refusal.Damaged named found) = (line : EntryLine)
    × (slice_get lines index ≡ Some line) × (line.kind ≡ Message) × (named ≡ line.blob)
    × (found ≢ named)
IsDamagedTextAt lines index refusal.NoMemory = Unit {0}

-- If the walk stopped at a damaged text, it tells which one that is.
abbrev pub WalkTellsDamage : {T : Type 0} → List EntryLine → Result T Unread → Type 0
WalkTellsDamage lines (Ok rows) = Unit {0}
WalkTellsDamage lines (Err unread) = IsDamagedTextAt lines unread.index unread.why

-- The row in a form and the words of the text of the entry at an index were added, with a number and a
-- moment.
abbrev pub AddsRowAt : Form → List Entry → ℕ → ℕ → ℕ → Viewed → Viewed → Type 0
AddsRowAt form entries index number moment old new =
    (text : List ℕ) × HasTextAt entries index text
    × (new ≡ with_mail old (row_of form number text moment) (mail_words text))

-- How often the text of an entry of a kind is read: once, if it is a message.
abbrev pub reads_of : EntryKind → ℕ
reads_of Message = 1
reads_of Deletion = 0

-- How many of these entries are messages.
abbrev pub message_count : List EntryLine → ℕ
message_count [] = 0
message_count (line ∷ lines) = reads_of line.kind + message_count lines
