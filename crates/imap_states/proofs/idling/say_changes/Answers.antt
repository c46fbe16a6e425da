use Rattle.std.proofs.Common.{◌++◌, [], append-nil}
use Rattle.imap_states.specs.States.{change_lines}
use Rattle.imap_states.proofs.Lines.{two-said, two-failed}
use Rattle.imap_states.proofs.idling.say_changes.Goals as goal

pub returns-in_err-push_changes-clause-said : goal.returns-in_err-push_changes-clause-said
returns-in_err-push_changes-clause-said g c =
    two-failed (change_lines c.args.changes.now) c.args.last.now c.new-reply.result c.new-reply.ensures _ _ _ _ _ c.from_residual.result c.from_residual.ensures.0 c.in_err-push_changes.ensures.said

pub returns-clause-said : goal.returns-clause-said
returns-clause-said g c =
    rw (append-nil c.args.last.now) at (two-said (change_lines c.args.changes.now) (c.args.last.now ++ []) c.new-reply.result c.new-reply.ensures _ _ c.push_changes.new.reply _ _ _ _ _ c.finish.result c.in_ok-push_changes.ensures.said c.finish.ensures.said)
