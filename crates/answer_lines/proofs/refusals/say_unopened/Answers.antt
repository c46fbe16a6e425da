use Rattle.answer_lines.proofs.refusals.say_unopened.Goals as goal

pub returns-in-Damaged-clause-said : goal.returns-in-Damaged-clause-said
returns-in-Damaged-clause-said g c = rw c.in-Damaged.is c.say_damaged.ensures.said
