-- What the tables of an index hold of its rows.
use Rattle.std.specs.Prelude.{◌≡◌, ℕ, Bool, false, ◌&&◌, ◌||◌, ◌==◌, List}
use Rattle.std.specs.List.Sorted.{IsStrictlySortedBy}
use Rattle.std.specs.Map.{keys_of}
use Rattle.std.specs.Ordering.{nat_cmp}
use Rattle.std.specs.BTreeMap.{is_at, insert_entry}
use Rattle.std.specs.BTreeSet.{BTreeSet}
use Rattle.word_index.specs.declared.rows.Dated.{Dated}
use Rattle.word_index.specs.declared.tables.Tables.{Tables}
use Rattle.word_index.specs.declared.rows.KeptRow.{KeptRow}
use Rattle.word_index.specs.Rows.{WordRow}
use Rattle.word_index.specs.Kept.{KeptRows, shown_all, AllHeld, keeps_at, in_subject, in_from, in_body}
use Rattle.word_index.specs.Postings.{Postings, posted}
use Rattle.word_index.specs.Days.{dated}

-- The rows, by number.
abbrev pub rows_of : Tables → List (ℕ × WordRow)
rows_of tables = shown_all tables.words tables.rows.entries

-- The row is of a day.
abbrev pub is_of : ℕ → KeptRow → Bool
is_of day row = row.day == day

-- A table lists, under each word or day, the numbers of the rows that have it, and no others.
abbrev pub Lists : {A : Type 0} → (A → KeptRow → Bool) → KeptRows → (A → ℕ → Bool) → Type 0
Lists {A} has rows table = (a : A) (m : ℕ) → table a m ≡ keeps_at (has a) rows m

-- It lists one further row.
abbrev pub ListsAlso : {A : Type 0} → (A → KeptRow → Bool) → KeptRows → (A → ℕ → Bool) → ℕ → KeptRow
    → Type 0
ListsAlso {A} has rows table n row = (a : A) (m : ℕ)
    → table a m ≡ (keeps_at (has a) rows m || (has a row && is_at (nat_cmp n) m))

-- It may list one further row under some of what that has.
pub record ListsPartly {A : Type 0} (has : A → KeptRow → Bool) (rows : KeptRows)
    (table : A → ℕ → Bool) (n : ℕ) (row : KeptRow) : Type 0 where
  pub others : (a : A) (m : ℕ) → has a row ≡ false → table a m ≡ keeps_at (has a) rows m
  pub rest : (a : A) (m : ℕ) → is_at (nat_cmp n) m ≡ false → table a m ≡ keeps_at (has a) rows m

-- The tables list the rows.
pub record IsWordIndexOf (rows : KeptRows) (subject from body : Postings) (days : BTreeSet Dated)
    : Type 0 where
  pub rising : IsStrictlySortedBy nat_cmp (keys_of rows)
  pub by_subject : Lists in_subject rows (posted subject)
  pub by_from : Lists in_from rows (posted from)
  pub by_body : Lists in_body rows (posted body)
  pub by_day : Lists is_of rows (dated days)

-- They list one further row.
pub record IsPostedIn (rows : KeptRows) (subject from body : Postings) (days : BTreeSet Dated)
    (n : ℕ) (row : KeptRow) : Type 0 where
  pub rising : IsStrictlySortedBy nat_cmp (keys_of rows)
  pub by_subject : ListsAlso in_subject rows (posted subject) n row
  pub by_from : ListsAlso in_from rows (posted from) n row
  pub by_body : ListsAlso in_body rows (posted body) n row
  pub by_day : ListsAlso is_of rows (dated days) n row

-- They may list one further row in part.
pub record IsPartlyIn (rows : KeptRows) (subject from body : Postings) (days : BTreeSet Dated)
    (n : ℕ) (row : KeptRow) : Type 0 where
  pub rising : IsStrictlySortedBy nat_cmp (keys_of rows)
  pub by_subject : ListsPartly in_subject rows (posted subject) n row
  pub by_from : ListsPartly in_from rows (posted from) n row
  pub by_body : ListsPartly in_body rows (posted body) n row
  pub by_day : ListsPartly is_of rows (dated days) n row

-- The tables list their rows.
abbrev pub IsWordIndex : Tables → Type 0
IsWordIndex t = IsWordIndexOf t.rows.entries t.subject t.from t.body t.days

-- The tables list their rows and one further row.
abbrev pub IsPosted : Tables → ℕ → KeptRow → Type 0
IsPosted t n row = IsPostedIn t.rows.entries t.subject t.from t.body t.days n row

-- The tables list their rows, and may list one further row in part.
abbrev pub IsPartlyPosted : Tables → ℕ → KeptRow → Type 0
IsPartlyPosted t n row = IsPartlyIn t.rows.entries t.subject t.from t.body t.days n row

-- Each number of a word in the rows has one.
abbrev pub HoldsWords : Tables → Type 0
HoldsWords t = AllHeld t.words t.rows.entries

-- The rows that are kept are those before and a new one.
abbrev pub Keeps : Tables → Tables → ℕ → KeptRow → Type 0
Keeps old new n row = new.rows.entries ≡ insert_entry nat_cmp old.rows.entries n row

-- The rows that are kept, and the words, are those before.
pub record SameRows (old new : Tables) : Type 0 where
  pub entries : new.rows.entries ≡ old.rows.entries
  pub words : new.words ≡ old.words
