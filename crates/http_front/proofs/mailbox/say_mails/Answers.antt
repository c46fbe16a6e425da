use Rattle.std.proofs.Common.{refl}
use Rattle.http_front.specs.Mailboxes.{mailbox_at}
use Rattle.http_front.proofs.Counting.{reads-sent}
use Rattle.http_front.proofs.Streaming.{serves-body, serves-head, mailbox-memory}
use Rattle.http_front.proofs.mailbox.say_mails.Goals as goal

pub returns-then-sends-clause-acts : goal.returns-then-sends-clause-acts
returns-then-sends-clause-acts g c = λ a rest held.
    serves-body c.args.moment a c.args.sends c.args.closes rest (mailbox_at a.entries c.args.numbers.now) c.in-Ok.head c.len_of-len.result c.in-Ok.ensures (c.len_of-len.ensures a held) _ _ _ c.if-sends.true (c.say_pieces.ensures.acts a rest held)

pub returns-then-sends-clause-reads : goal.returns-then-sends-clause-reads
returns-then-sends-clause-reads g c = reads-sent _ _ _ c.args.sends c.if-sends.true c.say_pieces.ensures.reads

pub returns-else-sends-clause-acts : goal.returns-else-sends-clause-acts
returns-else-sends-clause-acts g c = λ a rest held.
    serves-head c.args.moment a c.args.sends c.args.closes rest (mailbox_at a.entries c.args.numbers.now) c.in-Ok.head c.len_of-len.result c.in-Ok.ensures (c.len_of-len.ensures a held) _ _ _ c.if-sends.false refl c.say_rest.ensures.said

pub returns-in-Err-clause-acts : goal.returns-in-Err-clause-acts
returns-in-Err-clause-acts g c = λ a rest held.
    rw c.end_without_memory.ensures.next (mailbox-memory c.args.moment a c.args.closes rest (mailbox_at a.entries c.args.numbers.now) c.args.sends _ _ c.end_without_memory.ensures.said.0 refl c.end_without_memory.ensures.said.1)
