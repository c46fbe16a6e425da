-- Rows by their numbers, and what is asked of them.
use Rattle.std.specs.Prelude.{◌≡◌, ◌<◌, ◌≤◌, ℕ, ◌&&◌, nat_le, List, [], ◌∷◌, map, reverse, count_by, Option, Some, None, IsSome, if◌then◌else◌}
use Rattle.std.specs.List.{flat_map}
use Rattle.std.specs.declared.cmp.Ordering.{Ordering}
use Rattle.std.specs.BTreeMap.{is_at, insert_entry}
use Rattle.std.specs.BTreeSet.{insert_key}
use Rattle.std.specs.Map.{keys_of, lookup, remove_entry}
use Rattle.std.specs.Ordering.{nat_cmp, ordering_then}
use Rattle.std.specs.Str.{bytes_eq}
use Rattle.mail_forms.specs.declared.row.Row.{Row}
use Rattle.overview_index.specs.declared.spot.Spot.{Spot}

-- The row with a number.
abbrev pub row_in : List (ℕ × Row) → ℕ → Option Row
row_in rows n = lookup (is_at (nat_cmp n)) rows

-- The number of the row with an id (RFC 5322, section 3.6.4).
abbrev pub number_of : List (ℕ × Row) → List ℕ → Option ℕ
number_of [] id = None
number_of (e ∷ rows) id = if bytes_eq id e.1.id then Some e.0 else number_of rows id

-- The rows with one more, at its place among their numbers.
abbrev pub with_row : List (ℕ × Row) → Row → List (ℕ × Row)
with_row rows row = insert_entry nat_cmp rows row.number row

-- The rows without the one with a number.
abbrev pub without : List (ℕ × Row) → ℕ → List (ℕ × Row)
without rows n = remove_entry (is_at (nat_cmp n)) rows

-- Where a row stands in the order of dates: by the seconds of its date, and then by its number.
abbrev pub spot_of : Row → Spot
spot_of row = record { secs = row.date.secs; number = row.number }

-- The order of dates.
abbrev pub spot_cmp : Spot → Spot → Ordering
spot_cmp a b = ordering_then (nat_cmp a.secs b.secs) (nat_cmp a.number b.number)

-- Where the rows stand, in the order of dates.
abbrev pub spots : List (ℕ × Row) → List Spot
spots [] = []
spots (e ∷ rows) = insert_key spot_cmp (spots rows) (spot_of e.1)

-- The number of the row that stands somewhere.
abbrev pub number_at : Spot → ℕ
number_at spot = spot.number

-- The numbers of the rows, newest first: by the seconds of their dates, and then by number, both
-- falling.
unfoldable pub listing : List (ℕ × Row) → List ℕ
listing rows = map number_at (reverse (spots rows))

-- Where a further row stands, too, if there is one.
abbrev pub with_spot : Option Row → List Spot → List Spot
with_spot None found = found
with_spot (Some row) found = insert_key spot_cmp found (spot_of row)

-- A row under its number, if there is one.
abbrev pub under : ℕ → Option Row → List (ℕ × Row)
under n None = []
under n (Some row) = (n, row) ∷ []

-- The rows of these numbers, in their order.
abbrev pub rows_numbered : List (ℕ × Row) → List ℕ → List (ℕ × Row)
rows_numbered rows numbers = flat_map (λ (n : ℕ). under n (row_in rows n)) numbers

-- The number is the least one of a row that is at least `n`, or there is none.
abbrev pub IsLeastFrom : List (ℕ × Row) → ℕ → Option ℕ → Type 0
IsLeastFrom rows n None = (m : ℕ) → n ≤ m → row_in rows m ≡ None
IsLeastFrom rows n (Some found) = (n ≤ found) × IsSome (row_in rows found)
    × ((m : ℕ) → n ≤ m → m < found → row_in rows m ≡ None)

-- The number is the greatest one of a row that is at most `n`, or there is none.
abbrev pub IsGreatestTo : List (ℕ × Row) → ℕ → Option ℕ → Type 0
IsGreatestTo rows n None = (m : ℕ) → m ≤ n → row_in rows m ≡ None
IsGreatestTo rows n (Some found) = (found ≤ n) × IsSome (row_in rows found)
    × ((m : ℕ) → m ≤ n → found < m → row_in rows m ≡ None)

-- How many rows have a number from `low` to `high`, both included.
abbrev pub live_between : List (ℕ × Row) → ℕ → ℕ → ℕ
live_between rows low high = count_by (λ m. nat_le low m && nat_le m high) (keys_of rows)
