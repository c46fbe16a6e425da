use Rattle.std.proofs.Common.{◌≡◌, drop}
use Rattle.std.specs.List.{All}
use Rattle.mime_parts.specs.Trees.{IsPartOf}
use Rattle.imap_items.specs.Sections.{place_at}
use Rattle.imap_items.specs.Finding.{shown_place}
use Rattle.imap_items.proofs.places.place_at.Given as goal

abbrev pub invariant-loop-number : goal.invariant-loop-number
invariant-loop-number l = record {
  place : place_at l.text (drop l.number-index l.numbers) (shown_place l.place) ≡ place_at l.text l.numbers (shown_place l.from);
  within : All (IsPartOf l.text) l.place.after.now;
}
