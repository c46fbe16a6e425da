use Rattle.std.specs.List.{flat_map}
use Rattle.wire_replies.proofs.Wording.{Waits-then, Waits-lost}
use Rattle.imap_states.specs.States.{expunge_line, exists_if}
use Rattle.imap_states.proofs.telling.push_changes.Goals as goal

pub returns-in_err-push_gone-clause-said : goal.returns-in_err-push_gone-clause-said
returns-in_err-push_gone-clause-said g c =
    rw (← c.as_slice.ensures) (Waits-lost (flat_map expunge_line c.as_slice.result.now) (exists_if c.args.changes.now.exists) c.args.reply.now _ _ _ _ _ _ c.from_residual.result c.from_residual.ensures.0 c.in_err-push_gone.ensures.said)

pub returns-clause-said : goal.returns-clause-said
returns-clause-said g c =
    rw c.as_slice.ensures at (Waits-then (flat_map expunge_line c.as_slice.result.now) (exists_if c.args.changes.now.exists) c.args.reply.now c.push_gone.new.reply _ _ _ _ _ _ _ _ c.push_exists.result c.in_ok-push_gone.ensures.said c.push_exists.ensures.said)
