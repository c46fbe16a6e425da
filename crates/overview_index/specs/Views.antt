-- The orders in which rows are found, and what changes of them.
use Rattle.std.specs.Prelude.{◌≡◌, ℕ, false, List, [], ◌∷◌, Option, Some, None, if◌then◌else◌}
use Rattle.std.specs.BTreeMap.{BTreeMap, get_by, is_at}
use Rattle.std.specs.BTreeSet.{insert_key}
use Rattle.std.specs.Cmp.Lexicographic.{slice_cmp}
use Rattle.std.specs.Global.{Vec}
use Rattle.std.specs.List.{AllByRecursion}
use Rattle.std.specs.Map.{keys_of}
use Rattle.std.specs.Ordering.{nat_cmp}
use Rattle.std.specs.Set.{remove_key}
use Rattle.std.specs.Str.{bytes_eq}
use Rattle.mail_forms.specs.declared.row.Row.{Row}
use Rattle.overview_index.specs.Listings.{number_of, spot_cmp, spots}
use Rattle.overview_index.specs.declared.spot.Spot.{Spot}
use Rattle.overview_index.specs.declared.views.Views.{Views}

-- The number of an id in a map by ids.
abbrev pub number_in : BTreeMap (Vec ℕ) ℕ → List ℕ → Option ℕ
number_in ids id = get_by (λ (k : Vec ℕ). slice_cmp nat_cmp id k.items) ids

-- No two rows have the same id.
abbrev pub RowIdsDiffer : List (ℕ × Row) → Type 0
RowIdsDiffer [] = Unit {0}
RowIdsDiffer (e ∷ rows) =
    AllByRecursion (λ (f : ℕ × Row). bytes_eq f.1.id e.1.id ≡ false) rows × RowIdsDiffer rows

-- The orders are those of the rows: each row stands under its own number, and no two have the same
-- id.
pub record AreViews (rows : List (ℕ × Row)) (views : Views) : Type 0 where
  pub numbered : AllByRecursion (λ (e : ℕ × Row). e.1.number ≡ e.0) rows
  pub apart : RowIdsDiffer rows
  pub dates : views.dates ≡ spots rows
  pub numbers : views.numbers ≡ keys_of rows
  pub ids : (id : List ℕ) → number_in views.ids id ≡ number_of rows id

-- A row was added to each order.
pub record AddsRow (old new : Views) (id : List ℕ) (spot : Spot) : Type 0 where
  pub dates : new.dates ≡ insert_key spot_cmp old.dates spot
  pub numbers : new.numbers ≡ insert_key nat_cmp old.numbers spot.number
  pub ids : (q : List ℕ) → number_in new.ids q
      ≡ (if bytes_eq q id then Some spot.number else number_in old.ids q)

-- A row was added to the order of numbers and to that of ids.
pub record AddsNumber (old new : Views) (id : List ℕ) (number : ℕ) : Type 0 where
  pub dates : new.dates ≡ old.dates
  pub numbers : new.numbers ≡ insert_key nat_cmp old.numbers number
  pub ids : (q : List ℕ) → number_in new.ids q
      ≡ (if bytes_eq q id then Some number else number_in old.ids q)

-- A row was removed from each order.
pub record LosesRow (old new : Views) (id : List ℕ) (spot : Spot) : Type 0 where
  pub dates : new.dates ≡ remove_key (is_at (spot_cmp spot)) old.dates
  pub numbers : new.numbers ≡ remove_key (is_at (nat_cmp spot.number)) old.numbers
  pub ids : (q : List ℕ) → number_in new.ids q
      ≡ (if bytes_eq q id then None else number_in old.ids q)

-- The orders have the same rows.
pub record IsSame (old new : Views) : Type 0 where
  pub dates : new.dates ≡ old.dates
  pub numbers : new.numbers ≡ old.numbers
  pub ids : (q : List ℕ) → number_in new.ids q ≡ number_in old.ids q
