use Rattle.answer_lines.proofs.answers.say_answer.Goals as goal

pub returns-in-TooLarge-clause-said : goal.returns-in-TooLarge-clause-said
returns-in-TooLarge-clause-said g c = rw c.in-TooLarge.is c.say_number-in-TooLarge.ensures.said

pub returns-in-NoMemory-clause-said : goal.returns-in-NoMemory-clause-said
returns-in-NoMemory-clause-said g c = rw c.in-NoMemory.is c.say_memory.ensures.said

pub returns-in-Duplicate-clause-said : goal.returns-in-Duplicate-clause-said
returns-in-Duplicate-clause-said g c = rw c.in-Duplicate.is (rw c.from.ensures at c.say_number.ensures.said)

pub returns-in-NoFields-clause-said : goal.returns-in-NoFields-clause-said
returns-in-NoFields-clause-said g c = rw c.in-NoFields.is c.say_line.ensures.said

pub returns-in-Collision-clause-said : goal.returns-in-Collision-clause-said
returns-in-Collision-clause-said g c = rw c.in-Collision.is (rw c.from-in-Collision.ensures at c.say_number-in-Collision.ensures.said)

pub returns-in-NotLive-clause-said : goal.returns-in-NotLive-clause-said
returns-in-NotLive-clause-said g c = rw c.in-NotLive.is (rw c.from-in-NotLive.ensures at c.say_number-in-NotLive.ensures.said)

pub returns-in-Damaged-clause-said : goal.returns-in-Damaged-clause-said
returns-in-Damaged-clause-said g c = rw c.in-Damaged.is c.say_damaged.ensures.said
