use Rattle.shelf_doors.proofs.Replying.{Waits-ended}
use Rattle.wire_replies.proofs.Wording.{Says-failed}
use Rattle.imap_states.specs.Notices.{done_line}
use Rattle.imap_states.specs.States.{change_lines}
use Rattle.imap_states.proofs.telling.finish_told.Goals as goal

pub returns-in_err-push_changes-clause-said : goal.returns-in_err-push_changes-clause-said
returns-in_err-push_changes-clause-said g c =
    Says-failed (change_lines c.args.changes.now) (done_line c.args.tag.now c.args.name.now) c.args.reply.now _ _ _ _ _ c.from_residual.result c.from_residual.ensures.0 c.in_err-push_changes.ensures.said

pub returns-clause-said : goal.returns-clause-said
returns-clause-said g c =
    Waits-ended (change_lines c.args.changes.now) (done_line c.args.tag.now c.args.name.now) c.args.reply.now c.push_changes.new.reply _ _ _ _ _ _ _ c.finish.result c.in_ok-push_changes.ensures.said c.finish.ensures.said
