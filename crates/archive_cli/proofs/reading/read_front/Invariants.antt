use Rattle.std.proofs.Common.{◌≡◌, ◌≤◌, ◌-◌, length}
use Rattle.edge_io.specs.Left.{before}
use Rattle.archive_cli.proofs.reading.read_front.Given as goal

abbrev pub invariant-pieces : goal.invariant-pieces
invariant-pieces g l = record {
  read : g.S.Source.left l.fn.input ≡ before l.bytes (g.S.Source.left l.input);
  kept : g.S.Source.faults l.input ≡ g.S.Source.faults l.fn.input;
  buffer : length l.buffer.items ≡ 65536;
  few : length l.bytes ≤ l.fn.most;
}

abbrev pub decreases-pieces : goal.decreases-pieces
decreases-pieces g l = l.fn.most - length l.bytes
