use Rattle.std.proofs.Common.{ap}
use Rattle.pop3_reader.specs.Sessions.{meant}
use Rattle.pop3_reader.proofs.answers.say_order.Goals as goal

pub returns-in-User-clause-acts : goal.returns-in-User-clause-acts
returns-in-User-clause-acts g c = λ a rest held.
    rw (c.after.ensures, ap meant c.in-User.is) (c.say_user.ensures.acts a rest (g.S.Shelf.faults c.args.shelf.now) held)

pub returns-in-Pass-clause-acts : goal.returns-in-Pass-clause-acts
returns-in-Pass-clause-acts g c = λ a rest held.
    rw (c.after-in-Pass.ensures, ap meant c.in-Pass.is) (c.say_pass.ensures.acts a rest (g.S.Shelf.faults c.args.shelf.now) held)

pub returns-in-Asks-clause-acts : goal.returns-in-Asks-clause-acts
returns-in-Asks-clause-acts g c = λ a rest held.
    rw (c.after-in-Asks.ensures, ap meant c.in-Asks.is) (c.say_asked.ensures.acts a rest held)

pub returns-in-Asks-clause-unused : goal.returns-in-Asks-clause-unused
returns-in-Asks-clause-unused g c = λ a held spares. c.say_asked.ensures.unused a held (rw (ap meant c.in-Asks.is) at spares)
