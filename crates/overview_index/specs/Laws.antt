-- Laws of the listing.
use Rattle.std.specs.Prelude.{◌≡◌, ℕ, List}
use Rattle.std.specs.List.Sorted.{IsStrictlySortedBy}
use Rattle.arch_base.specs.declared.ids.Form.{Form}
use Rattle.mail_forms.specs.declared.row.Row.{Row}
use Rattle.arch_model.specs.Archives.{Entry}
use Rattle.arch_model.specs.Listings.{rows_of, listing as listed}
use Rattle.thread_model.specs.Members.{Among}
use Rattle.overview_index.specs.Listings.{spot_of, spot_cmp, spots, listing}
use Rattle.overview_index.specs.declared.spot.Spot.{Spot}

-- Spots that rise are just those of some rows.
pub record AreSpots (rows : List (ℕ × Row)) (found : List Spot) : Type 0 where
  pub rise : IsStrictlySortedBy spot_cmp found
  pub from : (spot : Spot) → Among found spot
      → (e : ℕ × Row) × Among rows e × (spot ≡ spot_of e.1)
  pub all : (e : ℕ × Row) → Among rows e → Among found (spot_of e.1)

-- The spots of rows, whichever way the rows are ordered, rise and are just theirs.
abbrev pub SpotsAreInOrder : Type 0
SpotsAreInOrder = (rows : List (ℕ × Row)) → AreSpots rows (spots rows)

-- The listing of the rows of messages is the listing of the messages.
abbrev pub ListingIsTheArchives : Type 0
ListingIsTheArchives = (form : Form) (es : List Entry) → listing (rows_of form es) ≡ listed es
