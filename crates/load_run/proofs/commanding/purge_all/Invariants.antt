use Rattle.std.proofs.Common.{◌≡◌, None}
use Rattle.arch_model.specs.KeeperRecord.{keeper}
use Rattle.arch_model.specs.Archives.{Archive}
use Rattle.arch_model.specs.Keeping.{MatchesKnown}
use Rattle.arch_model.specs.Standing.{standing}
use Rattle.load_run.specs.Loads.{purged_to}
use Rattle.load_run.proofs.commanding.purge_all.Given as goal

abbrev pub invariant-loop-index : goal.invariant-loop-index
invariant-loop-index g l = record {
  kept : (a : Archive) → MatchesKnown (keeper g.K.Shelf g.K.Keep) l.fn.keep (standing a None)
      → MatchesKnown (keeper g.K.Shelf g.K.Keep) l.keep (standing (purged_to a l.index) None);
  same : g.K.Shelf.faults l.keep ≡ g.K.Shelf.faults l.fn.keep;
}
