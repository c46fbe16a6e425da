use Rattle.wire_replies.specs.Changed.{first_sent}
use Rattle.wire_replies.proofs.Wording.{Waits-then, Waits-lost}
use Rattle.wire_replies.proofs.waiting.Waiting.wire_part.Goals as goal

pub returns-in_err-say-clause-said : goal.returns-in_err-say-clause-said
returns-in_err-say-clause-said g c =
    Waits-lost c.args.front.now (first_sent c.args.back.now) c.args.self.now _ _ _ _ _ _ c.from_residual.result c.from_residual.ensures.0 c.in_err-say.ensures.said

pub returns-clause-said : goal.returns-clause-said
returns-clause-said g c =
    Waits-then c.args.front.now (first_sent c.args.back.now) c.args.self.now c.say.new.self _ _ _ _ _ _ _ _ c.say-2.result c.in_ok-say.ensures.said (rw c.first_sent.ensures at c.say-2.ensures.said)
