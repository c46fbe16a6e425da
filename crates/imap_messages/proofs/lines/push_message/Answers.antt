use Rattle.std.proofs.Common.{ℕ, List, refl, subst}
use Rattle.line_door.specs.Acts.{at_sink}
use Rattle.wire_replies.specs.Waits.{Waits}
use Rattle.imap_messages.specs.Fetching.{asked_fetch, line_with}
use Rattle.imap_messages.proofs.Messages.{said}
use Rattle.imap_messages.proofs.lines.push_message.Goals as goal

pub returns-in-Ok-clause-line : goal.returns-in-Ok-clause-line
returns-in-Ok-clause-line g c = λ a held.
    rw c.after.ensures
    (said a (asked_fetch c.args.command.now) c.args.sequence c.args.uid (c.requires.live a held) c.args.begun c.args.reply.now (at_sink g.O.Sink c.args.out.now (g.S.Shelf.faults c.args.shelf.now))
    c.in-Ok.items (c.in-Ok.ensures.items a held) (at_sink g.O.Sink c.args.out.now (g.S.Shelf.faults c.made_items.new.shelf)) (at_sink g.O.Sink c.push_line.new.out (g.S.Shelf.faults c.made_items.new.shelf))
    c.push_line.new.reply c.push_line.result refl refl c.in-Ok.ensures.cause refl (subst (λ (w : List ℕ). Waits (line_with c.args.sequence w) c.args.reply.now (g.O.Sink.taken c.args.out.now) (g.O.Sink.faults c.args.out.now) c.push_line.new.reply (g.O.Sink.taken c.push_line.new.out) (g.O.Sink.faults c.push_line.new.out) c.push_line.result) c.as_slice.ensures c.push_line.ensures.said))
