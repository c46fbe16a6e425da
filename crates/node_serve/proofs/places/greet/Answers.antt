use Rattle.std.proofs.Common.{refl}
use Rattle.node_serve.specs.Nodes.{places_of}
use Rattle.node_serve.proofs.Turning.{makes-greeted, makes-lost, greets-whole}
use Rattle.node_serve.proofs.places.greet.Goals as goal

pub returns-in-Go-clause-made : goal.returns-in-Go-clause-made
returns-in-Go-clause-made g c = λ disk moment p placed few.
    makes-greeted moment c.args.conn c.args.door p (places_of c.args.sessions.now.entries) (places_of c.put.new.sessions.entries) _ _ c.greet_client-session.result.0 (greets-whole c.args.door) placed (c.put.ensures p placed) few refl
    (λ s. rw c.in-Go.is at (c.greet_client-session.ensures.greeted s disk)) c.greet_client-session.ensures.host.others c.greet_client-session.ensures.host.closings_same c.greet_client-session.ensures.host.closed_at_same

pub returns-in-Close-clause-made : goal.returns-in-Close-clause-made
returns-in-Close-clause-made g c = λ disk moment p placed few.
    makes-lost moment c.args.conn c.args.door p (places_of c.args.sessions.now.entries) (places_of c.end.new.sessions.entries) _ _ _ (greets-whole c.args.door) placed c.end.ensures few refl refl c.close.ensures.lost c.close.ensures.taken
    (λ s. rw c.in-Close.is at (c.greet_client-session.ensures.greeted s disk)) c.greet_client-session.ensures.host.others c.greet_client-session.ensures.host.closings_same c.close.ensures.others c.close.ensures.closed
    c.greet_client-session.ensures.host.closed_at_same c.close.ensures.closed_at_others c.close.ensures.closed_at
