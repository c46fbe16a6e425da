use Rattle.http_front.proofs.mailbox.end_without_memory.Goals as goal

pub returns-clause-said : goal.returns-clause-said
returns-clause-said g c = (c.say_status.result, c.say_status.ensures.said)
