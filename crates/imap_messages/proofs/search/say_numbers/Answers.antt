use Rattle.std.proofs.Common.{◌++◌, [], codes}
use Rattle.std.specs.List.{flat_map}
use Rattle.wire_replies.specs.Blocks.{crlf_line}
use Rattle.shelf_doors.proofs.Replying.{first-failed, second-failed, three-said}
use Rattle.imap_messages.specs.Tagged.{tagged}
use Rattle.imap_messages.specs.Seeking.{spaced_number, search_end}
use Rattle.imap_messages.proofs.search.say_numbers.Goals as goal

pub returns-in_err-push-clause-said : goal.returns-in_err-push-clause-said
returns-in_err-push-clause-said g c =
    first-failed (codes "* SEARCH") (flat_map spaced_number c.args.numbers.now) (crlf_line [] ++ tagged c.args.tag.now (search_end c.args.numbering)) c.new-reply.result c.new-reply.ensures _ _ _ _ _
    c.from_residual.result c.from_residual.ensures.0 c.in_err-push.ensures.said

pub returns-in_err-push_numbers-clause-said : goal.returns-in_err-push_numbers-clause-said
returns-in_err-push_numbers-clause-said g c =
    second-failed (codes "* SEARCH") (flat_map spaced_number c.args.numbers.now) (crlf_line [] ++ tagged c.args.tag.now (search_end c.args.numbering)) c.new-reply.result c.new-reply.ensures _ _ c.push.new.self _ _ _ c.in_ok-push.ensures.said _ _ _
    c.from_residual-in_err-push_numbers.result c.from_residual-in_err-push_numbers.ensures.0 c.in_err-push_numbers.ensures.said

pub returns-clause-said : goal.returns-clause-said
returns-clause-said g c =
    three-said (codes "* SEARCH") (flat_map spaced_number c.args.numbers.now) (crlf_line [] ++ tagged c.args.tag.now (search_end c.args.numbering)) c.new-reply.result c.new-reply.ensures _ _ c.push.new.self _ _ _ c.in_ok-push.ensures.said
    c.push_numbers.new.reply _ _ _ _ _ c.finish.result c.in_ok-push_numbers.ensures.said (rw (← c.search_end.ensures) c.finish.ensures.said)
