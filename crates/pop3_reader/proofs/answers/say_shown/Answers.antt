use Rattle.pop3_reader.proofs.answers.say_shown.Goals as goal

pub returns-in-Read-clause-acts : goal.returns-in-Read-clause-acts
returns-in-Read-clause-acts g c = λ a rest held. rw c.in-Read.is (c.say_mail.ensures.acts a rest held)

pub returns-in-Read-clause-unused : goal.returns-in-Read-clause-unused
returns-in-Read-clause-unused g c = λ a held spares. c.say_mail.ensures.unused a held (rw c.in-Read.is at spares)
