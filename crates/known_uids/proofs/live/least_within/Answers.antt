use Rattle.known_uids.proofs.Ranges.{least-within, least-beyond, least-none}
use Rattle.known_uids.proofs.live.least_within.Goals as goal

pub returns-in-Some-clause-numbers : goal.returns-in-Some-clause-numbers
returns-in-Some-clause-numbers g c = λ a held. least-within a c.args.first c.args.last c.in-Some.found (c.in-Some.ensures a held) c.if-found-last.true

pub returns-in_default-clause-numbers : goal.returns-in_default-clause-numbers
returns-in_default-clause-numbers g c = λ a held. least-beyond a c.args.first c.args.last c.in-Some.found (c.in-Some.ensures a held) c.if-found-last.false

pub returns-in_default-3-clause-numbers : goal.returns-in_default-3-clause-numbers
returns-in_default-3-clause-numbers g c = λ a held. least-none a c.args.first c.args.last (c.in_default.ensures a held)
