use Rattle.std.proofs.Common.{ap}
use Rattle.nntp_reader.specs.Sessions.{header_of}
use Rattle.nntp_reader.proofs.answers.say_header.Goals as goal

pub returns-in-Field-clause-acts : goal.returns-in-Field-clause-acts
returns-in-Field-clause-acts g c = λ moment a rest held. rw (ap header_of c.in-Field.is) (c.say_field.ensures.acts moment a rest held)

pub returns-in-Field-clause-unused : goal.returns-in-Field-clause-unused
returns-in-Field-clause-unused g c = λ a held spares. c.say_field.ensures.unused a held (rw (ap header_of c.in-Field.is) at spares)
