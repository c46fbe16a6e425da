use Rattle.std.proofs.Common.{◌++◌, codes}
use Rattle.imap_states.specs.Boxes.{status_line}
use Rattle.imap_states.specs.Notices.{done_line}
use Rattle.imap_states.specs.States.{change_lines}
use Rattle.imap_states.proofs.Lines.{two-said, two-failed}
use Rattle.imap_states.proofs.status.say_items.Goals as goal

pub returns-in_err-push_status-clause-said : goal.returns-in_err-push_status-clause-said
returns-in_err-push_status-clause-said g c = λ a held valid.
    two-failed (status_line a c.args.mailbox.index c.args.mailbox.range c.args.items.now) (change_lines c.args.changes.now ++ done_line c.args.tag.now (codes "STATUS")) c.new-reply.result c.new-reply.ensures _ _ _ _ _ c.from_residual.result c.from_residual.ensures.0 (c.in_err-push_status.ensures.said a held valid)

pub returns-clause-said : goal.returns-clause-said
returns-clause-said g c = λ a held valid.
    two-said (status_line a c.args.mailbox.index c.args.mailbox.range c.args.items.now) (change_lines c.args.changes.now ++ done_line c.args.tag.now (codes "STATUS")) c.new-reply.result c.new-reply.ensures _ _ c.push_status.new.reply _ _ _ _ _ c.finish_told.result (c.in_ok-push_status.ensures.said a held valid) c.finish_told.ensures.said
