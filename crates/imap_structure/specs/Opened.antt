-- Private: the parts that are opened while a structure is written, which still have parts to come.
use Rattle.std.specs.Prelude.{◌≡◌, ℕ, nat_le, List, [], ◌∷◌, ◌++◌, map, reverse, if◌then◌else◌}
use Rattle.std.specs.Borrow.{Bor}
use Rattle.std.specs.List.{flat_map}
use Rattle.mime_parts.specs.declared.part.Part.{Part}
use Rattle.imap_structure.specs.Structures.{opening_of, closing_of}

-- The opened parts, the last opened first.
abbrev pub open_parts : List (Bor Part) → List Part
open_parts opened = reverse (map (λ (p : Bor Part). p.now) opened)

-- Those of them that end before a part at a depth: they are as deep or deeper.
abbrev pub ended_at : ℕ → List Part → List Part
ended_at depth [] = []
ended_at depth (p ∷ ps) = if nat_le depth p.depth then p ∷ ended_at depth ps else []

-- Those that go on there.
abbrev pub open_at : ℕ → List Part → List Part
open_at depth [] = []
open_at depth (p ∷ ps) = if nat_le depth p.depth then open_at depth ps else p ∷ ps

-- The parts that end before a part at a depth are closed.
pub record PartsClosed
    (text : List ℕ) (depth : ℕ) (opened : List Part) (told : List ℕ)
    (opened' : List Part) (told' : List ℕ) : Type 0 where
  pub told_is : told' ≡ told ++ flat_map (closing_of text) (ended_at depth opened)
  pub open_is : opened' ≡ open_at depth opened

-- A part is opened, after those that end before it are closed.
pub record PartOpened
    (text : List ℕ) (p : Part) (opened : List Part) (told : List ℕ)
    (opened' : List Part) (told' : List ℕ) : Type 0 where
  pub told_is : told'
      ≡ told ++ (flat_map (closing_of text) (ended_at p.depth opened) ++ opening_of text p)
  pub open_is : opened' ≡ p ∷ open_at p.depth opened
