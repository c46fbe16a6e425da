use Rattle.std.proofs.Common.{append_assoc}
use Rattle.nntp_reader.proofs.articles.say_text.Goals as goal

pub returns-clause-said : goal.returns-clause-said
returns-clause-said g c = simp append_assoc (rw (c.code.ensures, c.from.ensures, c.id_of.ensures, c.part_of.ensures) at c.send.ensures.said)
