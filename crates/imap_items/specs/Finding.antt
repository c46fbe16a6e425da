-- Private: places while they are looked for.
use Rattle.std.specs.Prelude.{ℕ, nat_lt, List, [], ◌∷◌, if◌then◌else◌}
use Rattle.mime_parts.specs.declared.part.Part.{Part}
use Rattle.imap_structure.specs.Forests.{forest_of, split_at}
use Rattle.imap_items.specs.declared.places.Place.{Place}
use Rattle.imap_items.specs.Sections.{PlaceText}

-- The parts after those at the front that are deeper than a depth.
abbrev pub after_deeper : ℕ → List Part → List Part
after_deeper depth [] = []
after_deeper depth (p ∷ ps) = if nat_lt depth p.depth then after_deeper depth ps else p ∷ ps

-- What was found, as a place.
abbrev pub shown_place : Place → PlaceText
shown_place f = record {
  shape = f.shape;
  header = f.header.now;
  body = f.body.now;
  below = (split_at f.depth (forest_of f.after.now)).deeper;
}
