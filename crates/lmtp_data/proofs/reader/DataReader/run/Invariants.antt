-- What is read of the rest is what is read of the piece.
use Rattle.std.proofs.Common.{◌≡◌, ◌≤◌, length, drop}
use Rattle.lmtp_data.specs.Readings.{data_limit, read_on}
use Rattle.lmtp_data.specs.Steps.{work}
use Rattle.lmtp_data.proofs.reader.DataReader.run.Given as goal

abbrev pub invariant-loop-taken : goal.invariant-loop-taken
invariant-loop-taken l = record {
  same : read_on data_limit l.self l.rest ≡ read_on data_limit l.initial.self l.piece;
  at : l.rest ≡ drop l.used l.piece;
  within : l.used ≤ length l.piece;
}

abbrev pub decreases-loop-taken : goal.decreases-loop-taken
decreases-loop-taken l = work l.self l.rest
