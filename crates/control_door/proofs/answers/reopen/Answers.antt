use Rattle.std.proofs.Common.{true, inl, inr, refl, sym, ◌∙◌}
use Rattle.std.proofs.lemmas.Bool.{false≢true}
use Rattle.answer_lines.specs.Lines.{unopened_words}
use Rattle.keep_course.proofs.Commands.{reopening-found, reopening-nothing, reopening-refused}
use Rattle.control_door.specs.Door.{waiting}
use Rattle.control_door.proofs.answers.reopen.Goals as goal

pub returns-in-Ok-clause-acts : goal.returns-in-Ok-clause-acts
returns-in-Ok-clause-acts g c = λ s bytes fits.
    let found = c.in-Ok.ensures.found s fits in (
      found.0,
      found.1,
      reopening-found unopened_words s (waiting bytes true) found.0 _ _ found.2 c.in-Ok.ensures.cause refl refl,
      record {
        nothing = λ ready. ((c.in-Ok.ensures.nothing ready).1, reopening-nothing unopened_words s (waiting bytes true) found.0 _ _ (fits.settled ready).1 found.2 c.in-Ok.ensures.cause refl refl);
        found = λ stale at_hand. found.3 stale;
        ends = inl c.in-Ok.ensures.ready;
      },
    )

pub returns-in-Err-clause-acts : goal.returns-in-Err-clause-acts
returns-in-Err-clause-acts g c = λ s bytes fits.
    let still = c.in-Err.ensures.found s fits in
    let refused = reopening-refused unopened_words s (waiting bytes true) still.0 c.in-Err.refusal _ _ c.say_unopened.result still.2 c.in-Err.ensures.cause c.in-Err.ensures.later c.say_unopened.ensures.said in (
      still.0,
      still.1,
      refused.0,
      record { nothing = λ ready. absurd (false≢true (c.in-Err.ensures.nothing ready).0); found = λ stale ready. absurd (false≢true (sym c.in-Err.ensures.ready ∙ ready)); ends = inr (c.in-Err.ensures.ready, refused.1) },
    )
