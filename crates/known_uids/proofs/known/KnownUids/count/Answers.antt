use Rattle.std.proofs.Common.{◌+◌, ◌≤◌, subst, arith}
use Rattle.known_uids.specs.Told.{Known}
use Rattle.known_uids.proofs.Rising.{rising-length}
use Rattle.known_uids.proofs.known.KnownUids.count.Goals as goal

pub overflow_cast-result : goal.overflow_cast-result
overflow_cast-result c =
    let told = c.self.inside in
    omega (arith, rising-length told.first told.uids.items (told.last + 1) c.self.invariant.2, c.self.invariant.1, c.len.ensures, told.uids.ok.0)

pub returns-clause-most : goal.returns-clause-most
returns-clause-most c =
    let told = c.self.inside in
    subst (λ (k : Known). k.first + c.len.result ≤ k.last + 1) c.self.view_is
    (omega (arith, rising-length told.first told.uids.items (told.last + 1) c.self.invariant.2, c.len.ensures, told.uids.ok.0))
