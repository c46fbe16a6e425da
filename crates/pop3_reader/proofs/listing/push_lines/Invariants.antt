use Rattle.std.proofs.Common.{◌≡◌, ◌+◌, drop}
use Rattle.wire_replies.proofs.Wording.{SoFar}
use Rattle.pop3_reader.specs.Texts.{mail_lines}
use Rattle.pop3_reader.proofs.listing.push_lines.Given as goal

abbrev pub invariant-loop-mail : goal.invariant-loop-mail
invariant-loop-mail g l = record {
  count : l.k ≡ l.mail-index;
  so_far : SoFar (mail_lines l.listing l.maildrop.born 1 l.mails) (mail_lines l.listing l.maildrop.born (l.k + 1) (drop l.mail-index l.mails)) l.fn.reply (g.O.Sink.taken l.fn.out) (g.O.Sink.faults l.fn.out) l.reply (g.O.Sink.taken l.out) (g.O.Sink.faults l.out);
  sink : g.O.Sink.alike l.fn.out l.out;
}
