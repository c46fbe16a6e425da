use Rattle.std.proofs.Common.{◌≡◌, None}
use Rattle.arch_model.specs.KeeperRecord.{keeper}
use Rattle.arch_model.specs.Archives.{Archive}
use Rattle.arch_model.specs.Keeping.{MatchesKnown}
use Rattle.arch_model.specs.Standing.{standing}
use Rattle.load_run.specs.Loads.{removed_to}
use Rattle.load_run.proofs.commanding.remove_all.Given as goal

abbrev pub invariant-loop-index : goal.invariant-loop-index
invariant-loop-index g l = record {
  kept : (a : Archive) → MatchesKnown (keeper g.K.Shelf g.K.Keep) l.fn.keep (standing a None)
      → MatchesKnown (keeper g.K.Shelf g.K.Keep) l.keep (standing (removed_to a l.fn.moment l.index) None);
  same : g.K.Shelf.faults l.keep ≡ g.K.Shelf.faults l.fn.keep;
}
