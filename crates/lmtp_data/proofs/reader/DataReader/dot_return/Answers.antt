-- The end of the data, or another octet.
use Rattle.std.proofs.Common.{◌∷◌, [], arith}
use Rattle.lmtp_data.specs.declared.place.Place.TheVariants.{DotReturn, Return}
use Rattle.lmtp_data.proofs.Stepping.{took, ended, at-dot_return-ends, at-dot_return-return}
use Rattle.lmtp_data.proofs.reader.DataReader.dot_return.Goals as goal

pub returns-then-rest-eq10 : goal.returns-then-rest-eq10
returns-then-rest-eq10 c = ended c.args.self.now c.args.rest.now 1 DotReturn c.requires.at (omega arith) (at-dot_return-ends c.args.rest.now c.requires.some c.if-rest-eq10.true)

pub returns : goal.returns
returns c = took c.args.self.now c.push.new.self c.args.rest.now (13 ∷ []) 0 DotReturn Return c.requires.at c.push.ensures (omega arith) (omega arith)
    (at-dot_return-return c.args.rest.now c.requires.some c.if-rest-eq10.false)
