-- What an index of threads says, and what its changes cost.
use Rattle.std.specs.Prelude.{◌≡◌, ◌+◌, ◌≤◌, ℕ, Bool, List, [], map, length, Option, MatchOption}
use Rattle.std.specs.Option.{unwrap_or}
use Rattle.std.specs.Map.{lookup}
use Rattle.std.specs.BTreeMap.{is_at}
use Rattle.std.specs.Ordering.{nat_cmp}
use Rattle.thread_model.specs.Members.{Among, Rises}
use Rattle.thread_model.specs.Threads.{KeyedRow, thread}
use Rattle.thread_model.specs.Labelling.{label_in}

-- The rows of an index by number, the entries of its table of labels, and whether it is whole.
pub record Threads : Type 0 where
  pub whole : Bool
  pub rows : List KeyedRow
  pub labels : List (ℕ × ℕ)

-- No row has the number.
abbrev pub IsNew : List KeyedRow → ℕ → Type 0
IsNew rows n = (r : KeyedRow) → Among rows r → r.0 ≡ n → ⊥

-- The keys of the row with a number; none if there is no such row.
abbrev pub keys_of_row : List KeyedRow → ℕ → List (List ℕ)
keys_of_row rows n = unwrap_or (lookup (is_at (nat_cmp n)) rows) []

-- The numbers of the rows in the thread of a row.
abbrev pub members_of : List KeyedRow → ℕ → List ℕ
members_of rows n = map (λ (r : KeyedRow). r.0) (thread rows (keys_of_row rows n))

-- The label of a number is found exactly where a row has the number.
abbrev pub IsLabelOf : List KeyedRow → List (ℕ × ℕ) → ℕ → Option ℕ → Type 0
IsLabelOf rows labels n found = MatchOption found (IsNew rows n)
    (λ label. (label ≡ label_in labels n) × ((r : KeyedRow) × Among rows r × (r.0 ≡ n)))

-- The steps of an added row are at most one, and one for each row of the merged threads: those of
-- rows with one of its keys. They are at most as many without any one of these threads, so without
-- the largest.
pub record IsCostOfAdd (rows : List KeyedRow) (keys : List (List ℕ)) (before after : ℕ) : Type 0 where
  pub all : after ≤ before + 1 + length (thread rows keys)
  pub but_one : (r : KeyedRow) → Among (thread rows keys) r
      → after + length (thread rows r.1) ≤ before + 1 + length (thread rows keys)

-- The steps of a taken row are at most as many as its thread had rows.
abbrev pub IsCostOfTake : List KeyedRow → ℕ → ℕ → ℕ → Type 0
IsCostOfTake rows n before after =
    (r : KeyedRow) → Among rows r → r.0 ≡ n → after ≤ before + length (thread rows r.1)

-- The numbers of a list, each once, in rising order.
pub record OrdersNumbers (ns ordered : List ℕ) : Type 0 where
  pub rises : Rises ordered
  pub to : (n : ℕ) → Among ordered n → Among ns n
  pub from : (n : ℕ) → Among ns n → Among ordered n

-- The list has the numbers of the rows in the thread of a row.
pub record ListsThread (rows : List KeyedRow) (n : ℕ) (list : List ℕ) : Type 0 where
  pub to : (m : ℕ) → Among list m → Among (members_of rows n) m
  pub from : (m : ℕ) → Among (members_of rows n) m → Among list m
