use Rattle.std.proofs.Common.{◌∙◌, sym}
use Rattle.imap_session.proofs.Acting.{acts-ended, acts-awake}
use Rattle.imap_session.proofs.answers.answer_octets.Goals as goal

pub returns-in-Some-clause-acts : goal.returns-in-Some-clause-acts
returns-in-Some-clause-acts g c = λ a held suits.
    acts-ended a c.args.state.now c.in-Some.tag c.args.octets.now _ _ _ c.is_done.result (sym c.take.ensures.value ∙ c.in-Some.is) c.is_done.ensures
    (c.end_idling.ensures.acts a (g.S.Shelf.faults c.args.shelf.now) held (record { valid = suits.valid; place = suits.place }))

pub returns-in-None-clause-acts : goal.returns-in-None-clause-acts
returns-in-None-clause-acts g c = λ a held suits.
    acts-awake a c.args.state.now c.take.new.self c.args.octets.now _ _ _ (sym c.take.ensures.value ∙ c.in-None.is) c.take.ensures.after
    (c.answer.ensures.acts a held (record { valid = suits.valid; place = suits.place }))
