-- What calls leave, said of a shelf.
use Rattle.arch_model.specs.declared.shelf.Shelf.{Ghosts as Shelf}
use Rattle.arch_model.specs.Shelves.{ShelfStays}

-- The shelf stays, but for what reading changes.
abbrev pub ShelfKept : {S : Type 0} → Shelf S → S → S → Type 0
ShelfKept g old new = ShelfStays g.holds g.ready g.alike g.faults old new
