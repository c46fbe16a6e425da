use Rattle.std.proofs.Common.{codes, append_assoc}
use Rattle.wire_replies.specs.Blocks.{crlf_line}
use Rattle.imap_messages.proofs.refusals.say_no.Goals as goal

pub returns-clause-said : goal.returns-clause-said
returns-clause-said g c = rw (append_assoc c.args.tag.now (codes " NO ") (crlf_line c.args.reason.now)) c.send.ensures.said
