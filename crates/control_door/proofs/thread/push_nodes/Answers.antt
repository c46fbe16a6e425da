use Rattle.std.proofs.Common.{arith}
use Rattle.std.proofs.lemmas.Grind.{common_steps}
use Rattle.control_door.proofs.thread.push_nodes.Goals as goal

pub loop-line-preserved : goal.loop-line-preserved
loop-line-preserved g c = λ a held. grind (arith, common_steps, c.loop-line.invariant a held, c.in_ok-push_node.ensures a held, c.line-item.is)
