use Rattle.std.proofs.Common.{arith}
use Rattle.shelf_doors.proofs.Walking.{greatest-of}
use Rattle.arch_model.specs.Archives.{live}
use Rattle.shelf_doors.proofs.numbers.live_before.Goals as goal

pub returns : goal.returns
returns g c = λ a holds. greatest-of (live a.entries) c.args.n c.live_to.result (omega arith) (c.live_to.ensures a holds)
