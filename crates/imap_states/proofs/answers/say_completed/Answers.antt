use Rattle.std.proofs.Common.{◌++◌, [], append-nil}
use Rattle.imap_states.specs.Notices.{done_line}
use Rattle.imap_states.specs.States.{change_lines}
use Rattle.imap_states.proofs.Lines.{two-said, two-failed}
use Rattle.imap_states.proofs.answers.say_completed.Goals as goal

pub returns-in_err-push-clause-said : goal.returns-in_err-push-clause-said
returns-in_err-push-clause-said g c =
    rw (append-nil c.args.own.now) at (two-failed (c.args.own.now ++ []) (change_lines c.args.changes.now ++ done_line c.args.tag.now c.args.name.now) c.new-reply.result c.new-reply.ensures _ _ _ _ _ c.from_residual.result c.from_residual.ensures.0 c.in_err-push.ensures.said)

pub returns-clause-said : goal.returns-clause-said
returns-clause-said g c =
    rw (append-nil c.args.own.now) at (two-said (c.args.own.now ++ []) (change_lines c.args.changes.now ++ done_line c.args.tag.now c.args.name.now) c.new-reply.result c.new-reply.ensures _ _ c.push.new.self _ _ _ _ _ c.finish_told.result c.in_ok-push.ensures.said c.finish_told.ensures.said)
