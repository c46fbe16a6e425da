use Rattle.node_serve.specs.Nodes.{places_of}
use Rattle.node_serve.specs.declared.session.Session.TheVariants as session
use Rattle.node_serve.proofs.PlaceMaps.{placed-inserted}
use Rattle.node_serve.proofs.Turning.{makes-starved, makes-unchanged}
use Rattle.node_serve.proofs.places.make_session.Goals as goal

pub returns-in-Ok-clause-made : goal.returns-in-Ok-clause-made
returns-in-Ok-clause-made g c = λ disk.
    c.greet.ensures.made disk c.args.moment (places_of c.args.sessions.now.entries)
    (placed-inserted c.args.sessions.now c.insert.new.self c.args.conn _ (session.Control c.open.result) c.requires.none c.in-Ok.ensures.old c.in-Ok.ensures.updates c.in-Ok.ensures.len) c.requires.few

pub returns-clause-made : goal.returns-clause-made
returns-clause-made g c = λ disk.
    makes-unchanged c.args.moment c.args.door c.args.conn (places_of c.args.sessions.now.entries) c.args.sessions.now.entries c.insert.new.self.entries _ _ c.in-Err.ensures.err
    (makes-starved c.args.moment c.args.door c.args.conn (places_of c.args.sessions.now.entries) _ _ c.requires.none c.requires.few (c.refuse.ensures.refused disk))
