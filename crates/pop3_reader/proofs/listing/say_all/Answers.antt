use Rattle.wire_replies.specs.Blocks.{block_end}
use Rattle.shelf_doors.proofs.Replying.{first-failed, second-failed, three-said}
use Rattle.pop3_reader.specs.Notices.{notice_line}
use Rattle.pop3_reader.specs.Texts.{mail_lines}
use Rattle.pop3_reader.specs.declared.notice.PopNotice.TheVariants as notice
use Rattle.pop3_reader.proofs.listing.say_all.Goals as goal

pub returns-in_err-push-clause-said : goal.returns-in_err-push-clause-said
returns-in_err-push-clause-said g c =
    first-failed (notice_line notice.Done) (mail_lines c.args.listing c.args.maildrop.now.born 1 c.args.maildrop.now.mails) block_end c.new-reply.result c.new-reply.ensures _ _ _ _ _
    c.from_residual.result c.from_residual.ensures.0 c.in_err-push.ensures.said

pub returns-in_err-push_lines-clause-said : goal.returns-in_err-push_lines-clause-said
returns-in_err-push_lines-clause-said g c =
    second-failed (notice_line notice.Done) (mail_lines c.args.listing c.args.maildrop.now.born 1 c.args.maildrop.now.mails) block_end c.new-reply.result c.new-reply.ensures _ _ c.push.new.self _ _ _ c.in_ok-push.ensures.said _ _ _
    c.from_residual-in_err-push_lines.result c.from_residual-in_err-push_lines.ensures.0 c.in_err-push_lines.ensures.said

pub returns-clause-said : goal.returns-clause-said
returns-clause-said g c =
    three-said (notice_line notice.Done) (mail_lines c.args.listing c.args.maildrop.now.born 1 c.args.maildrop.now.mails) block_end c.new-reply.result c.new-reply.ensures _ _ c.push.new.self _ _ _ c.in_ok-push.ensures.said
    c.push_lines.new.reply _ _ _ _ _ c.finish.result c.in_ok-push_lines.ensures.said c.finish.ensures.said
