-- Private: one step of a visit: an entity is told, and its parts are the next ones.
use Rattle.std.specs.Prelude.{◌≡◌, ℕ, zero, suc, ◌+◌, ◌-◌, Bool, List, [], ◌∷◌, ◌++◌, map, reverse, length}
use Rattle.mime_parts.specs.declared.part.Span.{Span}
use Rattle.mime_parts.specs.declared.part.Part.{Part}
use Rattle.mime_parts.specs.declared.visiting.Entity.{Entity}
use Rattle.mime_parts.specs.declared.heading.Heading.{Heading}
use Rattle.mime_parts.specs.Headings.{shape_of, is_digest}
use Rattle.mime_parts.specs.Dividing.{at_most}
use Rattle.mime_parts.specs.Trees.{body_span, direct_parts, heading_at, visited_parts, part_at}

-- The entity with these bytes, so many levels below it, in a digest or not.
abbrev pub entity_at : ℕ → Bool → Span → Entity
entity_at levels digest s = record { span = s; levels = levels; digest = digest }

-- The direct parts of an entity that are visited. At the last level there are none.
abbrev pub parts_below : List ℕ → ℕ → Bool → ℕ → Span → List Span
parts_below text zero digest count s = []
parts_below text (suc levels) digest count s = visited_parts text digest count s

-- The same by the heading of the entity, where there is room for so many.
abbrev pub found_below : List ℕ → ℕ → Heading → ℕ → Span → List Span
found_below text zero h room s = []
found_below text (suc levels) h room s =
    at_most room (direct_parts (shape_of h) h.content_type.params text (body_span text s))

-- These parts as entities to visit.
abbrev pub below : List ℕ → ℕ → Bool → ℕ → Span → List Entity
below text levels digest count s =
    map (entity_at (levels - 1) (is_digest (heading_at text digest s)))
    (parts_below text levels digest count s)

-- How many entities are known while one is visited: those told, those that wait, and itself.
abbrev pub known : List Part → List Entity → ℕ
known parts pending = length parts + length pending + 1

-- An entity is visited: it is told after the others, and its parts wait in front of the others. The
-- last of those that wait is the next one.
pub record Visits
    (text : List ℕ) (e : Entity) (parts : List Part) (pending : List Entity)
    (parts' : List Part) (pending' : List Entity) : Type 0 where
  pub parts_are : parts' ≡ parts ++ part_at text e.levels e.digest
      (parts_below text e.levels e.digest (known parts pending) e.span) e.span ∷ []
  pub pending_are : pending' ≡ pending
      ++ reverse (below text e.levels e.digest (known parts pending) e.span)
