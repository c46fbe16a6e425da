use Rattle.std.proofs.Common.{◌∙◌, ◌++◌, List, ℕ, ap}
use Rattle.arch_model.specs.Archives.{live}
use Rattle.http_front.specs.Asking.{text_found}
use Rattle.http_front.specs.Views.{shown_text}
use Rattle.http_front.proofs.Finding.{finds-unread, text-missing}
use Rattle.http_front.proofs.message.text_at.Goals as goal

pub returns-then-not-is_live-clause-found : goal.returns-then-not-is_live-clause-found
returns-then-not-is_live-clause-found g c = λ a held. text-missing (shown_text a.entries c.args.n) (c.is_live.ensures a held ∙ c.if-not-is_live.true)

pub text-requires-clause-live : goal.text-requires-clause-live
text-requires-clause-live g c = λ a held. c.is_live.ensures a held ∙ c.if-not-is_live.false

pub returns-in-Ok-clause-found : goal.returns-in-Ok-clause-found
returns-in-Ok-clause-found g c = λ a held.
    let text = c.in-Ok.ensures.text a held in
    rw (text.2 ∙ ap (λ (t : List ℕ). t ++ text.0) c.new-text.ensures) (ap text_found text.1)

pub returns-in-Err-clause-found : goal.returns-in-Err-clause-found
returns-in-Err-clause-found g c = λ a held.
    finds-unread a (text_found (shown_text a.entries c.args.n)) (live a.entries) c.args.n c.new-text.result c.text.new.into c.in-Err.refusal (c.in-Err.ensures.text a held)
