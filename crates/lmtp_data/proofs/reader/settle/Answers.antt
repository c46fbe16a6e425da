-- A count fits.
use Rattle.lmtp_data.proofs.Stepping.{counted-none}
use Rattle.lmtp_data.proofs.reader.settle.Goals as goal

pub returns : goal.returns
returns c = counted-none c.args.count c.ranges.count.fits
