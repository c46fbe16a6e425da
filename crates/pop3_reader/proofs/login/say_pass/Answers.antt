use Rattle.std.proofs.Common.{◌≡◌, Some, rules}
use Rattle.pop3_reader.proofs.login.say_pass.Goals as goal

pub returns-in-Before-Some-clause-acts : goal.returns-in-Before-Some-clause-acts
returns-in-Before-Some-clause-acts g c = λ a rest disk held.
    let accepted : c.in-Before-Some.field-0 ≡ Some c.in-Before-Some.index = search rules in
    rw (c.in-Before-Some.is, accepted) (c.enter.ensures.acts a rest disk held)
