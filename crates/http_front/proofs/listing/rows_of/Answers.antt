use Rattle.std.proofs.Common.{arith}
use Rattle.std.proofs.lemmas.Grind.{common_steps}
use Rattle.http_front.proofs.listing.rows_of.Goals as goal

pub loop-n-preserved : goal.loop-n-preserved
loop-n-preserved g c = λ a held. grind (arith, common_steps, c.loop-n.invariant a held, c.row.ensures a held, c.in_ok-push_found.ensures)
