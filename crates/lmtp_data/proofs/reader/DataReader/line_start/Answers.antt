-- A dot at the start of a line, or another octet.
use Rattle.std.proofs.Common.{arith}
use Rattle.lmtp_data.specs.declared.place.Place.TheVariants.{LineStart, Dot, Within}
use Rattle.lmtp_data.proofs.Stepping.{moved, one-less, at-line-dot, at-line-within}
use Rattle.lmtp_data.proofs.reader.DataReader.line_start.Goals as goal

pub returns-then-rest-eq46 : goal.returns-then-rest-eq46
returns-then-rest-eq46 c = moved c.args.self.now c.stand.new.self c.args.rest.now 1 LineStart Dot c.requires.at c.stand.ensures (omega arith) (one-less c.args.rest.now LineStart Dot c.requires.some)
    (at-line-dot c.args.rest.now c.requires.some c.if-rest-eq46.true)

pub returns : goal.returns
returns c = moved c.args.self.now c.stand-2.new.self c.args.rest.now 0 LineStart Within c.requires.at c.stand-2.ensures (omega arith) (omega arith)
    (at-line-within c.args.rest.now c.requires.some c.if-rest-eq46.false)
