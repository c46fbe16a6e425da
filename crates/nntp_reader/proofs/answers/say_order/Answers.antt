use Rattle.std.proofs.Common.{ap}
use Rattle.nntp_reader.specs.Sessions.{meant}
use Rattle.nntp_reader.proofs.answers.say_order.Goals as goal

pub returns-in-Read-clause-acts : goal.returns-in-Read-clause-acts
returns-in-Read-clause-acts g c = λ a rest held.
    rw (c.after.ensures, ap meant c.in-Read.is) (c.say_part.ensures.acts c.args.moment a rest held)

pub returns-in-Header-clause-acts : goal.returns-in-Header-clause-acts
returns-in-Header-clause-acts g c = λ a rest held. rw (ap meant c.in-Header.is) (c.say_header.ensures.acts c.args.moment a rest held)

pub returns-in-Read-clause-unused : goal.returns-in-Read-clause-unused
returns-in-Read-clause-unused g c = λ a held spares. c.say_part.ensures.unused a held (rw (ap meant c.in-Read.is) at spares)

pub returns-in-Header-clause-unused : goal.returns-in-Header-clause-unused
returns-in-Header-clause-unused g c = λ a held spares. c.say_header.ensures.unused a held (rw (ap meant c.in-Header.is) at spares)
