use Rattle.std.proofs.Common.{◌∙◌, ◌++◌, List, ℕ, None, refl, ap}
use Rattle.arch_model.specs.Archives.{live, text_of}
use Rattle.arch_model.specs.Standing.{standing}
use Rattle.arch_model.proofs.Shelving.{undamaged-text}
use Rattle.control_door.specs.Requests.{Shows}
use Rattle.control_door.proofs.Answering.{acts-shown, acts-hidden, acts-unread, none-shown}
use Rattle.control_door.proofs.answers.say_message.Goals as goal

pub returns-then-not-is_live-clause-acts : goal.returns-then-not-is_live-clause-acts
returns-then-not-is_live-clause-acts g c = λ moment a rest held.
    acts-hidden moment (standing a None) c.args.number rest _ _ _ (c.is_live.ensures a held ∙ c.if-not-is_live.true) refl c.say_not_live.ensures.said

pub text-requires-clause-live : goal.text-requires-clause-live
text-requires-clause-live g c = λ a held. c.is_live.ensures a held ∙ c.if-not-is_live.false

pub returns-in-Ok-clause-acts : goal.returns-in-Ok-clause-acts
returns-in-Ok-clause-acts g c = λ moment a rest held.
    let text = c.in-Ok.ensures.text a held in
    acts-shown moment (standing a None) c.args.number text.0 rest _ _ _ text.1 c.in-Ok.ensures.cause (rw (c.as_slice.ensures ∙ text.2 ∙ ap (λ (t : List ℕ). t ++ text.0) c.new-text.ensures) at c.say_text.ensures.said)

pub returns-clause-acts : goal.returns-clause-acts
returns-clause-acts g c = λ moment a rest held.
    acts-unread moment (standing a None) (Shows c.args.number) rest _ _ _ c.in-Err.refusal refl refl (undamaged-text a.entries c.args.number c.new-text.result c.text.new.into c.in-Err.refusal (c.in-Err.ensures.text a held)) c.in-Err.ensures.cause c.text.ensures.shelf.later
    c.say_unread.ensures.said

pub returns-in-Ok-clause-unused : goal.returns-in-Ok-clause-unused
returns-in-Ok-clause-unused g c = λ a held none. absurd (none-shown (text_of (live a.entries) c.args.number) none (c.is_live.ensures a held ∙ c.if-not-is_live.false))

pub returns-clause-unused : goal.returns-clause-unused
returns-clause-unused g c = λ a held none. absurd (none-shown (text_of (live a.entries) c.args.number) none (c.is_live.ensures a held ∙ c.if-not-is_live.false))
