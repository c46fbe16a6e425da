use Rattle.std.proofs.Common.{◌∙◌, ◌++◌, List, ℕ, ap, refl, arith}
use Rattle.arch_model.proofs.Shelving.{undamaged-text}
use Rattle.arch_model.specs.Archives.{live, text_of}
use Rattle.door_tests.proofs.Parts.{part-given, no-text, some-text, says-unread, stops-why}
use Rattle.door_tests.proofs.shelf_client.say_part.Goals as goal

pub returns-then-not-is_live-clause-part : goal.returns-then-not-is_live-clause-part
returns-then-not-is_live-clause-part g c = λ a held. (no-text (text_of (live a.entries) c.args.n) (c.is_live.ensures a held ∙ c.if-not-is_live.true), record { out = refl; lost = refl; later = omega arith }, refl)

pub text-requires-clause-live : goal.text-requires-clause-live
text-requires-clause-live g c = λ a held. c.is_live.ensures a held ∙ c.if-not-is_live.false

pub returns-in-Ok-clause-part : goal.returns-in-Ok-clause-part
returns-in-Ok-clause-part g c = λ a held.
    let text = c.in-Ok.ensures.text a held in
    part-given c.args.begun (text_of (live a.entries) c.args.n) _ _ c.say_line.result c.given.result c.given.ensures
    (record { found = text.0; is = text.1; words = rw (c.as_slice.ensures ∙ text.2 ∙ ap (λ (t : List ℕ). t ++ text.0) c.new-text.ensures) at c.say_line.ensures.said; kept = c.in-Ok.ensures.cause })

pub returns-then-begun-clause-part : goal.returns-then-begun-clause-part
returns-then-begun-clause-part g c = λ a held.
    let text = some-text (text_of (live a.entries) c.args.n) (c.is_live.ensures a held ∙ c.if-not-is_live.false) in
    let well = undamaged-text (live a.entries) c.args.n c.new-text.result c.text.new.into c.in-Err.refusal (c.in-Err.ensures.text a held) in
    record { begun_is = c.if-begun.true; found = text.0; is = text.1; nothing = record { out = refl; lost = refl; later = c.text.ensures.shelf.later }; why = stops-why _ _ c.in-Err.refusal well c.in-Err.ensures.cause }

pub returns-clause-part : goal.returns-clause-part
returns-clause-part g c = λ a held. (
  c.if-begun.false,
  says-unread _ _ _ c.in-Err.refusal c.say_unread.result (undamaged-text (live a.entries) c.args.n c.new-text.result c.text.new.into c.in-Err.refusal (c.in-Err.ensures.text a held)) c.in-Err.ensures.cause c.text.ensures.shelf.later refl refl refl c.say_unread.ensures.said,
)
