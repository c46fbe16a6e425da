use Rattle.pop3_reader.proofs.texts.say_text.Goals as goal

pub returns-in-Top-clause-said : goal.returns-in-Top-clause-said
returns-in-Top-clause-said g c = rw c.in-Top.is (c.say_top.ensures.said c.args.mail)
