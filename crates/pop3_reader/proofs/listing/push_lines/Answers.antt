use Rattle.std.proofs.Common.{◌+◌, ℕ, ap}
use Rattle.pop3_reader.proofs.Lines.{mail-said, mail-lost}
use Rattle.pop3_reader.proofs.listing.push_lines.Goals as goal

pub loop-mail-preserved : goal.loop-mail-preserved
loop-mail-preserved g c = record {
  count = ap (λ (n : ℕ). n + 1) c.loop-mail.invariant.count;
  so_far = mail-said c.args.listing c.args.maildrop.now.born c.as_slice-mails.result.now c.loop-mail.k c.loop-mail.mail-index c.args.reply.now c.loop-mail.reply _ _ _ _ c.loop-mail.invariant.so_far _ c.push_line.new.reply _ _ tt c.loop-mail-test.true c.in-Ok.ensures.said;
  sink = g.met.O.Sink.alike_joined _ _ _ c.loop-mail.invariant.sink c.push_line.ensures.sink;
}

pub returns-in-Err-clause-said : goal.returns-in-Err-clause-said
returns-in-Err-clause-said g c =
    rw (← c.as_slice-mails.ensures)
    (mail-lost c.args.listing c.args.maildrop.now.born c.as_slice-mails.result.now c.loop-mail.k c.loop-mail.mail-index c.args.reply.now c.loop-mail.reply _ _ _ _ c.loop-mail.invariant.so_far _ _ _ c.in-Err.fault c.loop-mail-test.true c.in-Err.ensures.said)
