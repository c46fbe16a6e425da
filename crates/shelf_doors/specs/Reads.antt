-- Private: how many texts one act of a door of lines reads at most.
use Rattle.std.specs.Prelude.{◌≡◌, ℕ, List, ◌++◌, drop}
use Rattle.arch_model.specs.Shelves.{ReadsUpTo, ReadsAhead}
use Rattle.line_door.specs.Costs.{lines_cost}
use Rattle.line_door.specs.Readers.{LineReader}
use Rattle.line_door.specs.declared.turn.LineAct.{LineAct}
use Rattle.line_door.specs.declared.turn.LineAct.TheVariants.{Went, Kept, Closed}

-- The reads of one act, and as many as the bytes after it may still ask for, are at most those that all
-- bytes may ask for. The cost is that of a line, without its line end.
abbrev pub LineActReads : {S : Type 0} → ℕ → (List ℕ → ℕ) → LineReader S → List ℕ → LineAct → LineReader S
    → ℕ → ℕ → Type 0
LineActReads limit cost old piece (Went n) new before now =
    ReadsAhead (lines_cost limit cost (old.bytes ++ piece))
    (lines_cost limit cost (new.bytes ++ drop n piece)) before now
LineActReads limit cost old piece Kept new before now = now ≡ before
LineActReads limit cost old piece Closed new before now =
    ReadsUpTo (lines_cost limit cost (old.bytes ++ piece)) before now
