-- What is kept has room.
use Rattle.std.proofs.Common.{◌≤◌, length, ap, arith}
use Rattle.lmtp_data.specs.Readings.{data_limit}
use Rattle.lmtp_data.proofs.Stepping.{clipped-none}
use Rattle.lmtp_data.proofs.reader.DataReader.settled.Goals as goal

pub returns-clause-kept : goal.returns-clause-kept
returns-clause-kept c =
    let short : length c.args.self.now.text ≤ data_limit = omega (arith, ap length c.text-kept.ensures.value, c.text-kept.ensures.short) in
    clipped-none data_limit c.args.self.now.text short
