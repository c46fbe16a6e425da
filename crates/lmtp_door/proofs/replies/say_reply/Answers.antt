use Rattle.lmtp_door.proofs.replies.say_reply.Goals as goal

pub returns-in-Duplicate-clause-said : goal.returns-in-Duplicate-clause-said
returns-in-Duplicate-clause-said g c = rw c.in-Duplicate.is (rw c.from-in-Duplicate.ensures at c.say_numbered-in-Duplicate.ensures.said)

pub returns-in-NoFields-clause-said : goal.returns-in-NoFields-clause-said
returns-in-NoFields-clause-said g c = rw c.in-NoFields.is c.say.ensures.said

pub returns-in-TooLarge-clause-said : goal.returns-in-TooLarge-clause-said
returns-in-TooLarge-clause-said g c = rw c.in-TooLarge.is c.say_numbered-in-TooLarge.ensures.said

pub returns-in-Collision-clause-said : goal.returns-in-Collision-clause-said
returns-in-Collision-clause-said g c = rw c.in-Collision.is (rw c.from-in-Collision.ensures at c.say_numbered-in-Collision.ensures.said)

pub returns-in-IsMirror-clause-said : goal.returns-in-IsMirror-clause-said
returns-in-IsMirror-clause-said g c = rw c.in-IsMirror.is c.say-in-IsMirror.ensures.said

pub returns-in-Damaged-clause-said : goal.returns-in-Damaged-clause-said
returns-in-Damaged-clause-said g c = rw c.in-Damaged.is c.say_unopened-in-Damaged.ensures.said

pub returns-in-NotLive-clause-said : goal.returns-in-NotLive-clause-said
returns-in-NotLive-clause-said g c = rw c.in-NotLive.is (rw c.from-in-NotLive.ensures at c.say_numbered-in-NotLive.ensures.said)

pub returns-in-NoText-clause-said : goal.returns-in-NoText-clause-said
returns-in-NoText-clause-said g c = rw c.in-NoText.is (rw c.from-in-NoText.ensures at c.say_numbered-in-NoText.ensures.said)
