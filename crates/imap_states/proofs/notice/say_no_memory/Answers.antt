use Rattle.std.proofs.Common.{codes, append_assoc}
use Rattle.wire_replies.specs.Blocks.{crlf_line}
use Rattle.imap_states.proofs.notice.say_no_memory.Goals as goal

pub returns-clause-said : goal.returns-clause-said
returns-clause-said g c = rw (append_assoc c.args.tag.now (codes " NO ") (crlf_line (codes "out of memory"))) c.send.ensures.said
