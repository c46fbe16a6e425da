use Rattle.control_door.proofs.replies.say_reindexed.Goals as goal

pub returns-clause-said : goal.returns-clause-said
returns-clause-said g c = rw c.from.ensures at c.say_number.ensures.said
