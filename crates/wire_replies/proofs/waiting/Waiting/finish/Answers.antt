use Rattle.std.proofs.Common.{[], append-nil}
use Rattle.wire_replies.specs.Phrases.{words_of}
use Rattle.wire_replies.proofs.Wording.{Waits-flushed, Says-failed}
use Rattle.wire_replies.proofs.waiting.Waiting.finish.Goals as goal

pub returns-in_err-push-clause-said : goal.returns-in_err-push-clause-said
returns-in_err-push-clause-said g c = rw (append-nil (words_of c.args.phrases.now)) at (Says-failed (words_of c.args.phrases.now) [] c.args.self.now _ _ _ _ _ c.from_residual.result c.from_residual.ensures.0 c.in_err-push.ensures.said)

pub returns-clause-said : goal.returns-clause-said
returns-clause-said g c = Waits-flushed (words_of c.args.phrases.now) c.args.self.now c.push.new.self _ _ _ _ _ _ _ c.flush.result c.in_ok-push.ensures.said c.flush.ensures.said
