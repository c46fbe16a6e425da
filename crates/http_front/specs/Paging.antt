-- A page of the listing by all rows of an archive.
use Rattle.std.specs.Prelude.{◌≡◌, ℕ, drop, None}
use Rattle.arch_model.specs.Archives.{Archive, live}
use Rattle.arch_model.specs.Listings.{listing}
use Rattle.html_pages.specs.Pages.{listing_of}
use Rattle.http_heads.specs.declared.reply.Body.TheVariants.{Page}
use Rattle.http_front.specs.Views.{rows_at}
use Rattle.http_front.specs.Asking.{Gives, listing_found}

-- A page of the listing is the one that all rows after the skipped ones make.
abbrev pub ListingIsWhole : Type 0
ListingIsWhole = (a : Archive) (skip : ℕ) → listing_found a None skip
    ≡ Gives Page (listing_of a.config.name (rows_at a (drop skip (listing (live a.entries)))) skip)
