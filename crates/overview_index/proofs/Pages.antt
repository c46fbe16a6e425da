-- The numbers of a page of the listing.
use Rattle.std.proofs.Common.{◌≡◌, ℕ, List, map, reverse, take, drop, sym, ap, ◌∙◌}
use Rattle.std.proofs.lemmas.List.{take-map, drop-map}
use Rattle.mail_forms.specs.declared.row.Row.{Row}
use Rattle.overview_index.specs.Listings.{number_at, spots, listing}
use Rattle.overview_index.specs.declared.spot.Spot.{Spot}

-- A part of the spots, from the last one on, is that part of the listing.
pub page-is : (rows : List (ℕ × Row)) (dates shown : List Spot) (skip count : ℕ) (page : List ℕ) → dates ≡ spots rows → shown ≡ take count (drop skip (reverse dates)) → page ≡ map number_at shown
    → page ≡ take count (drop skip (listing rows))
unfolding listing
page-is rows dates shown skip count page d s p =
    let all = reverse (spots rows) in
    let part : shown ≡ take count (drop skip all) = s ∙ ap (λ t. take count (drop skip (reverse t))) d in
    p ∙ ap (map number_at) part ∙ sym (take-map number_at count (drop skip all)) ∙ ap (take count) (sym (drop-map number_at skip all))
