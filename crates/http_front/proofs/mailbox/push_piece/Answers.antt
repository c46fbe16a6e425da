use Rattle.std.proofs.Common.{◌∙◌, ◌++◌, List, ℕ, Option, Some, ap, sym}
use Rattle.arch_model.specs.Archives.{live}
use Rattle.http_front.specs.Mailboxes.{piece_by}
use Rattle.http_front.proofs.Feeds.{unread-undamaged}
use Rattle.http_front.proofs.mailbox.push_piece.Goals as goal

pub returns-in-Ok-mbox_piece-clause-piece : goal.returns-in-Ok-mbox_piece-clause-piece
returns-in-Ok-mbox_piece-clause-piece g c = λ a held.
    let text = c.in-Ok.ensures.text a held in
    c.in-Ok-mbox_piece.ensures.ok ∙ ap (λ (t : Option (List ℕ)). c.args.into.now ++ piece_by t) (ap Some (c.as_slice.ensures ∙ text.2 ∙ ap (λ (t : List ℕ). t ++ text.0) c.new-text.ensures) ∙ sym text.1)

pub returns-clause-piece : goal.returns-clause-piece
returns-clause-piece g c = λ a held. unread-undamaged (live a.entries) c.args.n c.new-text.result c.text.new.into c.in-Err.refusal (c.in-Err.ensures.text a held)
