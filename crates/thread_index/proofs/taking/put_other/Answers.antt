use Rattle.std.proofs.Common.{◌≡◌, false}
use Rattle.std.proofs.Common.{arith, ◌==◌}
use Rattle.std.proofs.lemmas.Bool.{eqb-false}
use Rattle.std.proofs.lemmas.Bool.Decides.{nat_tests}
use Rattle.thread_index.proofs.Others.{puts-one}
use Rattle.thread_index.proofs.taking.put_other.Goals as goal

-- src/taking.rt:12:1
pub returns : goal.returns
returns c =
    let other : (c.args.m == c.args.n) ≡ false = grind (arith, nat_tests, c.if-m-n.false) in
    puts-one c.args.others.now.keys c.insert.new.self.keys c.args.m c.args.n (eqb-false c.args.m c.args.n other) c.in_ok-insert.ensures.keys c.in_ok-insert.ensures.ordered
