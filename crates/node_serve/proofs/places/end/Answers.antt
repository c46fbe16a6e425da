use Rattle.node_serve.proofs.PlaceMaps.{ends-removed}
use Rattle.node_serve.proofs.places.end.Goals as goal

pub returns : goal.returns
returns c = ends-removed c.args.sessions.now c.remove.new.self c.args.conn c.remove.result c.remove.ensures.value c.remove.ensures.updates c.remove.ensures.len
