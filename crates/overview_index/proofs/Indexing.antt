-- The orders of rows, after one row more or less.
use Rattle.std.proofs.Common.{◌≡◌, ℕ, false, List, Some, None, refl, sym, ap, ◌∙◌}
use Rattle.std.specs.List.{AllByRecursion, list_any}
use Rattle.std.specs.List.Sorted.{IsStrictlySortedBy}
use Rattle.std.specs.Ordering.{nat_cmp}
use Rattle.std.specs.Map.{keys_of}
use Rattle.std.specs.BTreeMap.{is_at}
use Rattle.std.specs.Set.{remove_key}
use Rattle.mail_forms.specs.declared.row.Row.{Row}
use Rattle.overview_index.specs.Listings.{row_in, number_of, with_row, without, spot_of, spot_cmp}
use Rattle.overview_index.specs.Views.{AreViews, AddsRow, LosesRow, IsSame}
use Rattle.overview_index.specs.declared.spot.Spot.{Spot}
use Rattle.overview_index.specs.declared.views.Views.{Views}
use Rattle.overview_index.proofs.RowLists.{all-insert, all-remove, all-found, differ-insert, differ-remove, keys-insert, keys-remove, number-insert, number-remove, absent_number}
use Rattle.overview_index.proofs.Orders.{spots-insert, spots-remove, absent_spot}

-- One row more, whose number and id are new.
pub views-add : (rows : List (ℕ × Row)) (old new : Views) (row : Row) (id : List ℕ) (spot : Spot) → AreViews rows old → row_in rows row.number ≡ None → number_of rows row.id ≡ None
    → id ≡ row.id → spot ≡ spot_of row → AddsRow old new id spot → AreViews (with_row rows row) new
views-add rows old new row id spot is none free id_is spot_is adds = record {
  numbered = all-insert (λ (e : ℕ × Row). e.1.number ≡ e.0) rows row.number row none refl is.numbered;
  apart = differ-insert rows row.number row none free is.apart;
  dates = adds.dates ∙ rw (is.dates, spot_is) (sym (spots-insert rows row.number row none));
  numbers = adds.numbers ∙ rw (is.numbers, spot_is) (sym (keys-insert rows row.number row));
  ids = λ q. adds.ids q ∙ rw (is.ids q, id_is, spot_is) (sym (number-insert rows row.number row q none free));
}

-- One row less.
pub views-take : (rows : List (ℕ × Row)) (old new : Views) (n : ℕ) (row : Row) (id : List ℕ) (spot : Spot) → AreViews rows old → IsStrictlySortedBy nat_cmp (keys_of rows) → row_in rows n ≡ Some row
    → row_in (without rows n) n ≡ None → id ≡ row.id → spot ≡ spot_of row → LosesRow old new id spot → AreViews (without rows n) new
views-take rows old new n row id spot is sorted found gone id_is spot_is loses =
    let number : row.number ≡ n = all-found (λ (e : ℕ × Row). e.1.number ≡ e.0) rows n row is.numbered found in
    let numbered : AllByRecursion (λ (e : ℕ × Row). e.1.number ≡ e.0) (without rows n) = all-remove (λ (e : ℕ × Row). e.1.number ≡ e.0) rows n is.numbered in
    record {
      numbered = numbered;
      apart = differ-remove rows n is.apart;
      dates = loses.dates ∙ rw (is.dates, spot_is) (sym (spots-remove rows n row sorted numbered number found gone));
      numbers = loses.numbers ∙ rw (is.numbers, spot_is) (ap (λ m. remove_key (is_at (nat_cmp m)) (keys_of rows)) number ∙ sym (keys-remove rows n));
      ids = λ q. loses.ids q ∙ rw (is.ids q, id_is) (sym (number-remove rows n row q is.apart found));
    }

-- The same rows in each order.
pub views-same : (rows : List (ℕ × Row)) (old new : Views) → AreViews rows old → IsSame old new → AreViews rows new
views-same rows old new is same = record {
  numbered = is.numbered;
  apart = is.apart;
  dates = same.dates ∙ is.dates;
  numbers = same.numbers ∙ is.numbers;
  ids = λ q. same.ids q ∙ is.ids q;
}

-- A new row stands nowhere yet.
pub new_spot : (rows : List (ℕ × Row)) (views : Views) (row : Row) (spot : Spot) → AreViews rows views → row_in rows row.number ≡ None → spot ≡ spot_of row → list_any (is_at (spot_cmp spot)) views.dates ≡ false
new_spot rows views row spot is none spot_is = rw (is.dates, spot_is) (absent_spot rows (spot_of row) is.numbered none)

pub new_number : (rows : List (ℕ × Row)) (views : Views) (row : Row) (spot : Spot) → AreViews rows views → row_in rows row.number ≡ None → spot ≡ spot_of row → list_any (is_at (nat_cmp spot.number)) views.numbers ≡ false
new_number rows views row spot is none spot_is = rw (is.numbers, spot_is) (absent_number rows row.number none)
