use Rattle.std.proofs.Common.{◌∙◌, ◌++◌, List, ℕ, ap}
use Rattle.arch_model.specs.Archives.{live}
use Rattle.http_front.specs.Asking.{message_found}
use Rattle.http_front.specs.Views.{shown_row, shown_text}
use Rattle.http_front.proofs.Finding.{finds-unread, finds-message, message-missing}
use Rattle.http_front.proofs.message.message_at.Goals as goal

pub returns-then-not-is_live-clause-found : goal.returns-then-not-is_live-clause-found
returns-then-not-is_live-clause-found g c = λ a held. message-missing a (shown_row a c.args.n) (shown_text a.entries c.args.n) (c.is_live.ensures a held ∙ c.if-not-is_live.true)

pub text-requires-clause-live : goal.text-requires-clause-live
text-requires-clause-live g c = λ a held. c.is_live.ensures a held ∙ c.if-not-is_live.false

pub returns-in-Ok-page_with-clause-found : goal.returns-in-Ok-page_with-clause-found
returns-in-Ok-page_with-clause-found g c = λ a held.
    let text = c.in-Ok.ensures.text a held in
    finds-message a (shown_row a c.args.n) (shown_text a.entries c.args.n) c.as_slice.result.now text.0 c.in-Ok-page_with.held text.1 (c.as_slice.ensures ∙ text.2 ∙ ap (λ (t : List ℕ). t ++ text.0) c.new-text.ensures)
    (c.in-Ok-page_with.ensures a (c.in-Ok.ensures.shelf.kept a held))

pub returns-clause-found : goal.returns-clause-found
returns-clause-found g c = λ a held.
    finds-unread a (message_found a (shown_row a c.args.n) (shown_text a.entries c.args.n)) (live a.entries) c.args.n c.new-text.result c.text.new.into c.in-Err.refusal (c.in-Err.ensures.text a held)
