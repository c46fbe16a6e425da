use Rattle.std.proofs.Common.{refl, arith}
use Rattle.http_front.specs.Fronts.{head_limit}
use Rattle.http_front.proofs.Fronts.{front-nil}
use Rattle.http_front.proofs.session.HttpSession.open.Goals as goal

pub invariant_of-result : goal.invariant_of-result
invariant_of-result c = rw c.new.ensures (record { part = front-nil head_limit (omega arith); mark = refl })
