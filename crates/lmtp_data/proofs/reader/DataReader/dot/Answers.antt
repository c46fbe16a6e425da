-- A carriage return after the dot, or another octet.
use Rattle.std.proofs.Common.{arith}
use Rattle.lmtp_data.specs.declared.place.Place.TheVariants.{Dot, DotReturn, Within}
use Rattle.lmtp_data.proofs.Stepping.{moved, one-less, at-dot-return, at-dot-within}
use Rattle.lmtp_data.proofs.reader.DataReader.dot.Goals as goal

pub returns-then-rest-eq13 : goal.returns-then-rest-eq13
returns-then-rest-eq13 c = moved c.args.self.now c.stand.new.self c.args.rest.now 1 Dot DotReturn c.requires.at c.stand.ensures (omega arith) (one-less c.args.rest.now Dot DotReturn c.requires.some)
    (at-dot-return c.args.rest.now c.requires.some c.if-rest-eq13.true)

pub returns : goal.returns
returns c = moved c.args.self.now c.stand-2.new.self c.args.rest.now 0 Dot Within c.requires.at c.stand-2.ensures (omega arith) (omega arith)
    (at-dot-within c.args.rest.now c.requires.some c.if-rest-eq13.false)
