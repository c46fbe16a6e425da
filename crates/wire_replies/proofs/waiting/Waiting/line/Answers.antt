use Rattle.mail_forms.specs.WireForms.{wire_of}
use Rattle.wire_replies.specs.Changed.{dot_before}
use Rattle.wire_replies.proofs.Blocks.{line-dotted}
use Rattle.wire_replies.proofs.Wording.{Waits-then, Waits-lost}
use Rattle.wire_replies.proofs.waiting.Waiting.line.Goals as goal

pub returns-in_err-dot-clause-said : goal.returns-in_err-dot-clause-said
returns-in_err-dot-clause-said g c =
    rw (line-dotted c.args.line.now) (Waits-lost (dot_before c.args.line.now) (wire_of c.args.line.now) c.args.self.now _ _ _ _ _ _ c.from_residual.result c.from_residual.ensures.0 c.in_err-dot.ensures.said)

pub returns-clause-said : goal.returns-clause-said
returns-clause-said g c =
    rw (line-dotted c.args.line.now) (Waits-then (dot_before c.args.line.now) (wire_of c.args.line.now) c.args.self.now c.dot.new.self _ _ _ _ _ _ _ _ c.wire.result c.in_ok-dot.ensures.said c.wire.ensures.said)
