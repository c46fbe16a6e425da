use Rattle.std.proofs.Common.{inl, inr, refl, sym, ◌∙◌}
use Rattle.std.proofs.lemmas.Bool.{false≢true}
use Rattle.keep_course.proofs.Commands.{reopening-found, reopening-nothing, reopening-refused}
use Rattle.node_serve.specs.Doors.{unopened_words, with_piece}
use Rattle.node_serve.proofs.session.reopen.Goals as goal

pub returns-in-Ok-clause-acts : goal.returns-in-Ok-clause-acts
returns-in-Ok-clause-acts g c = λ s piece fits.
    let found = c.in-Ok.ensures.found s fits in (
      found.0,
      found.1,
      reopening-found (unopened_words c.args.moment c.args.session.now) s (with_piece c.args.session.now piece) found.0 _ _ found.2 c.in-Ok.ensures.cause refl refl,
      record {
        nothing = λ ready. ((c.in-Ok.ensures.nothing ready).1, reopening-nothing (unopened_words c.args.moment c.args.session.now) s (with_piece c.args.session.now piece) found.0 _ _ (fits.settled ready).1 found.2 c.in-Ok.ensures.cause refl refl);
        found = λ stale at_hand. found.3 stale;
        ends = inl c.in-Ok.ensures.ready;
      },
    )

pub returns-in-Err-clause-acts : goal.returns-in-Err-clause-acts
returns-in-Err-clause-acts g c = λ s piece fits.
    let still = c.in-Err.ensures.found s fits in
    let refused = reopening-refused (unopened_words c.args.moment c.args.session.now) s (with_piece c.args.session.now piece) still.0 c.in-Err.refusal _ _ c.say_shut.result still.2 c.in-Err.ensures.cause c.in-Err.ensures.later c.say_shut.ensures.said in (
      still.0,
      still.1,
      refused.0,
      record { nothing = λ ready. absurd (false≢true (c.in-Err.ensures.nothing ready).0); found = λ stale ready. absurd (false≢true (sym c.in-Err.ensures.ready ∙ ready)); ends = inr (c.in-Err.ensures.ready, refused.1) },
    )
