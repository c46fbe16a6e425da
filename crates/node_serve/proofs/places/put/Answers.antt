use Rattle.node_serve.proofs.PlaceMaps.{put-written}
use Rattle.node_serve.proofs.places.put.Goals as goal

pub returns-in-Some : goal.returns-in-Some
returns-in-Some c = λ p placed.
    put-written c.args.sessions.now (c.get_mut.follows.lender c.args.session) c.args.conn c.in-Some.place.now c.args.session c.in-Some.ensures.value (c.get_mut.follows.holds c.args.session)

pub returns-in_default : goal.returns-in_default
returns-in_default c = λ p placed. (let found = placed.some in let none = c.in_default.ensures.value in absurd (cc))
