use Rattle.std.proofs.Common.{append_assoc}
use Rattle.nntp_reader.proofs.field.say_block.Goals as goal

pub returns-clause-said : goal.returns-clause-said
returns-clause-said g c = simp append_assoc (rw c.from.ensures at c.send.ensures.said)
