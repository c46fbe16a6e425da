-- Not past the last entry, and none before this one is on the line.
use Rattle.std.specs.Prelude.{◌≤◌}
use Rattle.epoch_store.specs.Adopting.{NoneOnLine}
use Rattle.epoch_store.proofs.store.Store.next_on_line.Given as goal

abbrev pub invariant-loop-at : goal.invariant-loop-at
invariant-loop-at l = record { least : l.from ≤ l.at; passed : NoneOnLine l.self.entries l.from l.at l.line }
