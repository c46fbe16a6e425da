-- A run, and then the look at what is kept and counted.
use Rattle.std.proofs.Common.{subst, sym}
use Rattle.lmtp_data.specs.Readings.{data_limit, ReadsData}
use Rattle.lmtp_data.proofs.Stepping.{run-read}
use Rattle.lmtp_data.proofs.reader.DataReader.read.Goals as goal

pub returns : goal.returns
returns c = rw c.settled.ensures.value (run-read c.args.self.now c.run-used.new.self c.args.piece.now c.run-used.result c.settled.ensures.kept c.settled.ensures.count c.run-used.ensures)
