use Rattle.pop3_reader.proofs.answers.say_asked.Goals as goal

pub returns-in-Entered-clause-acts : goal.returns-in-Entered-clause-acts
returns-in-Entered-clause-acts g c = λ a rest held. rw c.in-Entered.is (c.say_shown.ensures.acts a rest held)

pub returns-in-Entered-clause-unused : goal.returns-in-Entered-clause-unused
returns-in-Entered-clause-unused g c = λ a held spares. c.say_shown.ensures.unused a held (rw c.in-Entered.is at spares)
