use Rattle.std.proofs.Common.{◌≤◌, length}
use Rattle.arch_model.specs.Archives.{Archive}
use Rattle.load_run.proofs.counting.entry_count.Given as goal

abbrev pub invariant-loop-index : goal.invariant-loop-index
invariant-loop-index g l = record {
  within : (a : Archive) → g.S.Shelf.holds l.shelf a → l.index ≤ length a.entries;
}
