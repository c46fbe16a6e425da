-- Rows as they are kept: their words by the numbers of these.
use Rattle.std.specs.Prelude.{◌≡◌, ℕ, Bool, false, ◌||◌, List, map, Option, None, Some}
use Rattle.std.specs.Option.{option_map_or}
use Rattle.std.specs.List.{list_any, AllByRecursion}
use Rattle.std.specs.Map.{lookup}
use Rattle.std.specs.Ordering.{nat_cmp}
use Rattle.std.specs.BTreeMap.{is_at}
use Rattle.query_lang.specs.declared.matching.Field.{Field}
use Rattle.query_lang.specs.declared.matching.Field.TheVariants.{Any, Subject, From, Body}
use Rattle.text_words.specs.declared.word_lists.WordLists.{WordLists}
use Rattle.word_index.specs.declared.rows.KeptRow.{KeptRow}
use Rattle.word_index.specs.Rows.{WordRow}
use Rattle.word_index.specs.Vocabulary.{spelled, AreHeld}

-- Rows that are kept, by number.
abbrev pub KeptRows : Type 0
KeptRows = List (ℕ × KeptRow)

-- The row of which this is kept, by the words that there are.
abbrev pub shown : List (List ℕ) → KeptRow → WordRow
shown words row =
    record {
      words = record {
        subject = spelled words row.subject.items;
        from = spelled words row.from.items;
        body = spelled words row.body.items;
      };
      day = row.day;
    }

-- All rows that are kept, by number.
abbrev pub shown_all : List (List ℕ) → KeptRows → List (ℕ × WordRow)
shown_all words entries = map (λ (e : ℕ × KeptRow). (e.0, shown words e.1)) entries

-- Each number of a word in the row has one.
pub record IsHeld (words : List (List ℕ)) (row : KeptRow) : Type 0 where
  pub subject : AreHeld words row.subject.items
  pub from : AreHeld words row.from.items
  pub body : AreHeld words row.body.items

-- So has each in the rows.
abbrev pub AllHeld : List (List ℕ) → KeptRows → Type 0
AllHeld words entries = AllByRecursion (λ (e : ℕ × KeptRow). IsHeld words e.1) entries

-- The row has these words, and this day.
pub record IsKeptOf (held : List (List ℕ)) (words : WordLists) (day : ℕ) (row : KeptRow) : Type 0 where
  pub has : IsHeld held row
  pub is : shown held row ≡ record { words = words; day = day }

-- The row with a number.
abbrev pub kept_at : KeptRows → ℕ → Option KeptRow
kept_at rows n = lookup (is_at (nat_cmp n)) rows

-- The number has a row, which passes a test.
abbrev pub keeps_at : (KeptRow → Bool) → KeptRows → ℕ → Bool
keeps_at test rows n = option_map_or test (kept_at rows n) false

-- The number is one of the list.
abbrev pub has_number : List ℕ → ℕ → Bool
has_number numbers n = list_any (λ (held : ℕ). is_at (nat_cmp held) n) numbers

-- The row has a word in its subject.
abbrev pub in_subject : ℕ → KeptRow → Bool
in_subject word row = has_number row.subject.items word

-- The row has a word in its From field.
abbrev pub in_from : ℕ → KeptRow → Bool
in_from word row = has_number row.from.items word

-- The row has a word in its body.
abbrev pub in_body : ℕ → KeptRow → Bool
in_body word row = has_number row.body.items word

-- The row has a word there.
abbrev pub has_at : Field → ℕ → KeptRow → Bool
has_at Any word row = in_subject word row || in_from word row || in_body word row
has_at Subject word row = in_subject word row
has_at From word row = in_from word row
has_at Body word row = in_body word row

-- The row has a word there, which has a number or is in no row.
abbrev pub has_known : Field → Option ℕ → KeptRow → Bool
has_known field None row = false
has_known field (Some word) row = has_at field word row
