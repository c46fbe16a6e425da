use Rattle.edge_io.proofs.Wording.{Says-then, Says-lost}
use Rattle.http_front.proofs.replies.say_parts.Goals as goal

pub returns-in_err-say-clause-said : goal.returns-in_err-say-clause-said
returns-in_err-say-clause-said g c = Says-lost c.args.front.now c.args.rest.now _ _ _ _ _ c.from_residual.result c.from_residual.ensures.0 c.in_err-say.ensures.said

pub returns-clause-said : goal.returns-clause-said
returns-clause-said g c = Says-then c.args.front.now c.args.rest.now _ _ _ _ _ _ _ _ c.in_ok-say.ensures.said c.say_in_parts.ensures.said
