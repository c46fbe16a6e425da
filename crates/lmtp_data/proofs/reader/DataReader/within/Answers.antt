-- A run of octets, up to a carriage return or to the end.
use Rattle.std.proofs.Common.{◌≡◌, ◌<◌, ◌+◌, ◌∙◌, ℕ, List, length, drop, take, ap, sym, add-one, arith, length-drop}
use Rattle.std.proofs.lemmas.Bool.{eqb-true, eq-eqb}
use Rattle.lmtp_data.specs.declared.place.Place.TheVariants.{Return, Within}
use Rattle.lmtp_data.proofs.Stepping.{took-run, took-all}
use Rattle.lmtp_data.proofs.reader.DataReader.within.Goals as goal

pub returns-in-Some : goal.returns-in-Some
returns-in-Some c =
    let e = c.in-Some.ensures in
    let high : c.in-Some.end < length c.args.rest.now = e.0.high in
    took-run c.args.self.now c.push.new.self c.args.rest.now c.split_at.result.0.now c.in-Some.end c.requires.at c.push.ensures c.split_at.ensures.front high (eqb-true _ 13 e.1) (λ k l is. e.0.before k (omega arith) l (eq-eqb _ 13 is))

pub returns-in-None : goal.returns-in-None
returns-in-None c =
    let none = c.in-None.ensures in
    took-all c.args.self.now c.push-in-None.new.self c.args.rest.now c.requires.at c.push-in-None.ensures c.requires.some (λ k l is. none k (omega arith) l (eq-eqb _ 13 is))
