use Rattle.imap_commands.proofs.answers.say_order.Goals as goal

pub returns-in-State-clause-acts : goal.returns-in-State-clause-acts
returns-in-State-clause-acts g c = λ a held suits. rw c.in-State.is (c.answer.ensures.acts a (g.S.Shelf.faults c.args.shelf.now) held suits)
