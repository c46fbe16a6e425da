use Rattle.std.proofs.Common.{refl}
use Rattle.http_front.specs.Mailboxes.{piece_at}
use Rattle.http_front.specs.Views.{shown_text}
use Rattle.http_front.proofs.Pieces.{piece-some}
use Rattle.http_front.proofs.Streaming.{part-short, part-unread}
use Rattle.http_front.proofs.mailbox.say_piece.Goals as goal

pub returns-in-Ok-clause-part : goal.returns-in-Ok-clause-part
returns-in-Ok-clause-part g c = λ a held.
    rw (← c.in-Ok.ensures.piece a held, ← c.in-Ok.ensures.cause) (c.say_long.ensures.part c.args.moment _)

pub returns-then-begun-clause-part : goal.returns-then-begun-clause-part
returns-then-begun-clause-part g c = λ a held.
    part-short c.args.moment c.args.unsaid.now (piece_at a.entries c.args.n) c.args.begun _ _ c.in-Err.refusal (piece-some (shown_text a.entries c.args.n) (c.requires.live a held)) (c.in-Err.ensures.piece a held) c.in-Err.ensures.cause c.in-Err.ensures.shelf.later refl refl c.if-begun.true

pub returns-else-begun-clause-part : goal.returns-else-begun-clause-part
returns-else-begun-clause-part g c = λ a held.
    part-unread c.args.moment c.args.unsaid.now (piece_at a.entries c.args.n) c.args.begun _ _ c.in-Err.refusal (piece-some (shown_text a.entries c.args.n) (c.requires.live a held)) (c.in-Err.ensures.piece a held) c.in-Err.ensures.cause c.in-Err.ensures.shelf.later refl refl _ _ c.if-begun.false refl c.say_unread-sent.ensures.said
