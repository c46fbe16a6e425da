use Rattle.wire_replies.proofs.Wording.{Waits-filled}
use Rattle.wire_replies.proofs.waiting.Waiting.fill.Goals as goal

pub returns-clause-said : goal.returns-clause-said
returns-clause-said g c = Waits-filled c.args.words.now c.args.self.now c.put.new.self c.flush.new.self _ _ _ _ c.flush.result c.put.ensures c.flush.ensures.empty c.flush.ensures.said
