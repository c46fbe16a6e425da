use Rattle.std.proofs.Common.{◌≤◌, [], length, take}
use Rattle.git_objects.specs.Fronts.{AppendsPiece}
use Rattle.arch_model.specs.Archives.{Archive}
use Rattle.arch_model.specs.Shelves.{lines_after}
use Rattle.mirror_wire.specs.Parts.{entries_part}
use Rattle.mirror_wire.proofs.writing.push_entries.Given as goal

abbrev pub invariant-loop-index : goal.invariant-loop-index
invariant-loop-index g l = record {
  within : (a : Archive) → g.S.Shelf.holds l.shelf a → l.index ≤ length (lines_after a.config.form [] a.entries);
  said : (a : Archive) → g.S.Shelf.holds l.shelf a → AppendsPiece l.initial.into l.into (entries_part (take l.index (lines_after a.config.form [] a.entries)));
}
