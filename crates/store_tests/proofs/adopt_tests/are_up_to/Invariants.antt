-- If no entry from here on is in a later epoch, none is.
use Rattle.std.specs.Prelude.{drop}
use Rattle.store_finding.specs.Extents.{AreUpToEpoch}
use Rattle.store_tests.proofs.adopt_tests.are_up_to.Given as goal

abbrev pub invariant-loop-entry : goal.invariant-loop-entry
invariant-loop-entry l = AreUpToEpoch l.epoch (drop l.entry-index l.entries) → AreUpToEpoch l.epoch l.entries
