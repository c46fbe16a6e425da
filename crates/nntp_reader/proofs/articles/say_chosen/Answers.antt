use Rattle.std.proofs.Common.{◌≡◌, ◌∙◌, ◌++◌, List, ℕ, ap, refl, inl}
use Rattle.nntp_reader.proofs.articles.say_chosen.Goals as goal

pub returns-in-Ok-clause-said : goal.returns-in-Ok-clause-said
returns-in-Ok-clause-said g c = λ a held.
    let text = c.in-Ok.ensures.text a held in
    let read : c.as_slice.result.now ≡ text.0 = c.as_slice.ensures ∙ text.2 ∙ ap (λ (t : List ℕ). t ++ text.0) c.new-text.ensures in
    inl (c.in-Ok.ensures.cause, refl, rw (text.1, ← read) c.say_text.ensures.said)
