-- The end of a line, or another octet.
use Rattle.std.proofs.Common.{◌∷◌, [], arith}
use Rattle.lmtp_data.specs.declared.place.Place.TheVariants.{LineStart, Return, Within}
use Rattle.lmtp_data.proofs.Stepping.{moved, took, one-less, at-return-line, at-return-within}
use Rattle.lmtp_data.proofs.reader.DataReader.return_.Goals as goal

pub returns-then-rest-eq10 : goal.returns-then-rest-eq10
returns-then-rest-eq10 c = took c.args.self.now c.push.new.self c.args.rest.now (10 ∷ []) 1 Return LineStart c.requires.at c.push.ensures (omega arith) (one-less c.args.rest.now Return LineStart c.requires.some)
    (at-return-line c.args.rest.now c.requires.some c.if-rest-eq10.true)

pub returns : goal.returns
returns c = moved c.args.self.now c.stand.new.self c.args.rest.now 0 Return Within c.requires.at c.stand.ensures (omega arith) (omega arith)
    (at-return-within c.args.rest.now c.requires.some c.if-rest-eq10.false)
