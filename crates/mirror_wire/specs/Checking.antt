-- Private: what a reader of a list knows of the entries up to one, and where it stops.
use Rattle.std.specs.Prelude.{◌≡◌, ◌≢◌, ◌+◌, ◌≤◌, ◌<◌, ◌⊎◌, ◌↔◌, ℕ, Bool, ◌&&◌, nat_le, List, [], ◌∷◌, ◌++◌, length, codes, Option, Some, Result, Ok, Err}
use Rattle.std.specs.List.{AllByRecursion}
use Rattle.std.specs.Ordering.{nat_cmp}
use Rattle.std.specs.BTreeMap.{BTreeMap, get_by}
use Rattle.arch_base.specs.declared.ids.Form.{Form}
use Rattle.arch_base.specs.declared.ids.ObjectId.{ObjectId}
use Rattle.arch_base.specs.Ids.{id_cmp}
use Rattle.arch_base.specs.Moments.{last_moment}
use Rattle.git_objects.specs.Fronts.{Lacks}
use Rattle.git_objects.specs.declared.entry_kind.EntryKind.TheVariants.{Message, Deletion}
use Rattle.disk_model.specs.Sizes.{greatest_epoch}
use Rattle.mail_reader.specs.StorageTexts.{max_text_len}
use Rattle.thread_model.specs.Members.{Among}
use Rattle.arch_model.specs.declared.line.EntryLine.{EntryLine}
use Rattle.mirror_wire.specs.declared.checking.Checked.{Checked}
use Rattle.mirror_wire.specs.declared.list.ListRefusal.{ListRefusal}
use Rattle.mirror_wire.specs.declared.list.ListRefusal.TheVariants.{BadList, NoMemory}
use Rattle.mirror_wire.specs.Lists.{entry_part}
use Rattle.mirror_wire.specs.Rules.{IsNext, MayFollow, EachMayFollow}
use Rattle.mirror_wire.specs.Parts.{entries_part}

-- The blob id of a number in a map by numbers.
abbrev pub blob_at : BTreeMap ℕ ObjectId → ℕ → Option ObjectId
blob_at live n = get_by (nat_cmp n) live

-- The size of a blob id in a map by blob ids.
abbrev pub size_at : BTreeMap ObjectId ℕ → ObjectId → Option ℕ
size_at sizes blob = get_by (id_cmp blob) sizes

-- One of some lines is the message with a number and a blob id, and none is its deletion.
pub record NamesLive (lines : List EntryLine) (n : ℕ) (blob : ObjectId) : Type 0 where
  pub message : EntryLine
  pub there : Among lines message
  pub kind : message.kind ≡ Message
  pub number : message.number ≡ n
  pub blob_is : message.blob ≡ blob
  pub live : AllByRecursion (λ (m : EntryLine). m.kind ≡ Deletion → m.number ≢ n) lines

-- One of some lines has a blob id and a size.
pub record NamesSize (lines : List EntryLine) (blob : ObjectId) (size : ℕ) : Type 0 where
  pub line : EntryLine
  pub there : Among lines line
  pub blob_is : line.blob ≡ blob
  pub size_is : line.size ≡ size

-- A number is the greatest of some lines, or 0, and a map has the live messages of the lines.
pub record KnowsNumbers (number : ℕ) (live : BTreeMap ℕ ObjectId) (lines : List EntryLine) : Type 0 where
  pub above : AllByRecursion (λ (m : EntryLine). m.number ≤ number) lines
  pub reached : (n : ℕ) → 1 ≤ n → AllByRecursion (λ (m : EntryLine). m.number < n) lines → number < n
  pub names : (n : ℕ) (blob : ObjectId) → (blob_at live n ≡ Some blob) ↔ NamesLive lines n blob

-- A number is the greatest epoch of some lines, or 0.
pub record KnowsEpoch (epoch : ℕ) (lines : List EntryLine) : Type 0 where
  pub above : AllByRecursion (λ (m : EntryLine). m.epoch ≤ epoch) lines
  pub reached : (n : ℕ) → AllByRecursion (λ (m : EntryLine). m.epoch ≤ n) lines → epoch ≤ n

-- The epoch of a line is at least this one, and epoch, moment and size are in their ranges.
abbrev pub in_range : ℕ → EntryLine → Bool
in_range epoch l = nat_le epoch l.epoch && nat_le l.epoch greatest_epoch && nat_le l.secs last_moment
    && nat_le l.size max_text_len

-- A map has the sizes of some lines.
abbrev pub KnowsSizes : BTreeMap ObjectId ℕ → List EntryLine → Type 0
KnowsSizes sizes lines =
    (blob : ObjectId) (size : ℕ) → (size_at sizes blob ≡ Some size) ↔ NamesSize lines blob size

-- The lines are valid in a list with the next number, and what decides about the next line is that of
-- the lines.
pub record IsChecked (c : Checked) : Type 0 where
  pub next : IsNext c.next
  pub within : c.number ≤ c.next
  pub valid : EachMayFollow c.form c.next [] c.lines
  pub numbers : KnowsNumbers c.number c.live c.lines
  pub epochs : KnowsEpoch c.epoch c.lines
  pub sizes : KnowsSizes c.sizes c.lines

-- The number of a line was taken in.
pub record TakesNumber (old new : Checked) (line : EntryLine) : Type 0 where
  pub form : new.form ≡ old.form
  pub next : new.next ≡ old.next
  pub lines : new.lines ≡ old.lines
  pub epoch : new.epoch ≡ old.epoch
  pub sizes : new.sizes ≡ old.sizes
  pub within : new.number ≤ new.next
  pub numbers : KnowsNumbers new.number new.live (old.lines ++ line ∷ [])

-- One more line was taken in.
pub record TakesLine (old new : Checked) (line : EntryLine) : Type 0 where
  pub checked : IsChecked new
  pub form : new.form ≡ old.form
  pub next : new.next ≡ old.next
  pub lines : new.lines ≡ old.lines ++ line ∷ []

-- A text is the lines of these entries, which are valid, and what follows them.
pub record HasEntriesUpTo (form : Form) (next : ℕ) (text : List ℕ) (lines : List EntryLine) (rest : List ℕ)
    : Type 0 where
  pub valid : EachMayFollow form next [] lines
  pub is : text ≡ entries_part lines rest

-- What follows some lines is neither the line of an entry that may follow nor `end`. So that line,
-- after the three before the entries, is the bad one.
pub record LacksLine (form : Form) (next : ℕ) (lines : List EntryLine) (rest : List ℕ) (line : ℕ)
    : Type 0 where
  pub is : line ≡ length lines + 4
  pub none : Lacks (MayFollow form next lines) entry_part rest
  pub no_end : (more : List ℕ) → rest ≢ codes "end\n" ++ more

-- `end` follows some lines, and bytes after it. So the line after `end` is the bad one.
pub record GoesOn (lines : List EntryLine) (rest : List ℕ) (line : ℕ) : Type 0 where
  pub is : line ≡ length lines + 5
  pub more : List ℕ
  pub ended : rest ≡ codes "end\n" ++ more
  pub some : more ≢ []

-- A line is the first bad one of a text that is to have the lines of entries and `end`.
pub record ListStopsAt (form : Form) (next : ℕ) (text : List ℕ) (line : ℕ) : Type 0 where
  pub lines : List EntryLine
  pub rest : List ℕ
  pub read : HasEntriesUpTo form next text lines rest
  pub stop : LacksLine form next lines rest line ⊎ GoesOn lines rest line

-- The entries that the text after the first three lines of a list has, up to `end`; or the bad line.
abbrev pub ReadsEntries : Form → ℕ → List ℕ → Result (List EntryLine) ListRefusal → Type 0
ReadsEntries form next text (Ok lines) = HasEntriesUpTo form next text lines (codes "end\n")
ReadsEntries form next text (Err (BadList line)) = ListStopsAt form next text line
ReadsEntries form next text (Err NoMemory) = Unit {0}
