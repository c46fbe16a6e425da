use Rattle.shelf_doors.proofs.refusals.say_damaged_epoch.Goals as goal

pub returns-clause-said : goal.returns-clause-said
returns-clause-said g c = rw c.from.ensures at c.send.ensures.said
