use Rattle.std.proofs.Common.{◌≡◌, None}
use Rattle.arch_model.specs.KeeperRecord.{keeper}
use Rattle.arch_model.specs.Archives.{Archive}
use Rattle.arch_model.specs.Keeping.{MatchesKnown}
use Rattle.arch_model.specs.Standing.{standing}
use Rattle.load_run.specs.Mails.{state_after}
use Rattle.load_run.specs.Loads.{delivered_to}
use Rattle.load_run.proofs.commanding.deliver_all.Given as goal

abbrev pub invariant-loop-index : goal.invariant-loop-index
invariant-loop-index g l = record {
  kept : (a : Archive) → MatchesKnown (keeper g.K.Shelf g.K.Keep) l.fn.keep (standing a None)
      → MatchesKnown (keeper g.K.Shelf g.K.Keep) l.keep (standing (delivered_to a l.fn.seed l.index) None);
  state : l.state ≡ state_after l.fn.seed l.index;
  same : g.K.Shelf.faults l.keep ≡ g.K.Shelf.faults l.fn.keep;
}
