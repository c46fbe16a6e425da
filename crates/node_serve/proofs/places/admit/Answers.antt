use Rattle.std.proofs.Common.{arith}
use Rattle.node_serve.specs.Nodes.{places_of}
use Rattle.node_serve.proofs.Turning.{makes-busy, makes-after}
use Rattle.node_serve.proofs.places.admit.Goals as goal

pub returns-then-len-ge-SESSION_LIMIT-clause-made : goal.returns-then-len-ge-SESSION_LIMIT-clause-made
returns-then-len-ge-SESSION_LIMIT-clause-made g c = λ disk.
    makes-after c.args.moment c.args.door c.args.conn (places_of c.args.sessions.now.entries) (places_of c.end.new.sessions.entries) (places_of c.end.new.sessions.entries) _ _ c.end.ensures
    (makes-busy c.args.moment c.args.door c.args.conn (places_of c.end.new.sessions.entries) _ _ c.end.ensures.gone (omega (arith, c.len.ensures.len, c.if-len-ge-SESSION_LIMIT.true)) (c.refuse.ensures.refused disk))

pub make_session-requires-clause-none : goal.make_session-requires-clause-none
make_session-requires-clause-none g c = c.end.ensures.gone

pub returns-clause-made : goal.returns-clause-made
returns-clause-made g c = λ disk.
    makes-after c.args.moment c.args.door c.args.conn (places_of c.args.sessions.now.entries) (places_of c.end.new.sessions.entries) (places_of c.make_session.new.sessions.entries) _ _ c.end.ensures (c.make_session.ensures.made disk)
