-- Private: the parts of a list's text, each before the bytes that follow it.
use Rattle.std.specs.Prelude.{◌<◌, ◌^◌, ℕ, List, [], ◌∷◌}
use Rattle.arch_base.specs.declared.ids.Form.{Form}
use Rattle.arch_base.specs.declared.ids.ObjectId.{ObjectId}
use Rattle.arch_base.specs.Ids.{IsObjectId}
use Rattle.git_objects.specs.declared.entry_kind.EntryKind.{EntryKind}
use Rattle.git_objects.specs.Fronts.{in_turn}
use Rattle.git_objects.specs.Objects.{entry_name}
use Rattle.git_objects.specs.Commits.{IsNumber, number_part, hex_part, text_part}
use Rattle.arch_model.specs.declared.line.EntryLine.{EntryLine}
use Rattle.mirror_wire.specs.Lists.{first_words, entry_part}

-- A number of 32 bits.
abbrev pub Has32Bits : ℕ → Type 0
Has32Bits n = n < 2 ^ 32

-- Any kind.
abbrev pub AnyEntryKind : EntryKind → Type 0
AnyEntryKind kind = Unit {0}

-- The letter of a kind, and a space.
abbrev pub letter_part : EntryKind → List ℕ → List ℕ
letter_part kind rest = entry_name kind ∷ 32 ∷ rest

-- The kind and the number of an entry.
abbrev pub place_part : EntryKind × ℕ → List ℕ → List ℕ
place_part = in_turn letter_part (number_part 32)

-- The epoch and the moment of an entry.
abbrev pub time_part : ℕ × ℕ → List ℕ → List ℕ
time_part = in_turn (number_part 32) (number_part 32)

-- The blob id of an entry and the size of its text.
abbrev pub blob_part : ObjectId × ℕ → List ℕ → List ℕ
blob_part = in_turn (hex_part 32) (number_part 32)

-- What the line of an entry can spell, whatever lines are before it.
pub record IsEntryLine (form : Form) (l : EntryLine) : Type 0 where
  pub number : Has32Bits l.number
  pub epoch : Has32Bits l.epoch
  pub secs : IsNumber l.secs
  pub blob : IsObjectId form l.blob
  pub size : IsNumber l.size
  pub commit : IsObjectId form l.commit

-- The lines before those of the entries.
abbrev pub head_part : Form → List ℕ → ℕ → List ℕ → List ℕ
head_part form name next rest = text_part 10 (first_words form) (text_part 10 name (number_part 10 next rest))

-- The lines of entries.
abbrev pub entries_part : List EntryLine → List ℕ → List ℕ
entries_part [] rest = rest
entries_part (l ∷ ls) rest = entry_part l (entries_part ls rest)
