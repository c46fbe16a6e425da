use Rattle.std.proofs.Common.{◌+◌, sym, ap, arith}
use Rattle.arch_model.specs.Archives.{live}
use Rattle.shelf_doors.specs.Numbers.{first_of}
use Rattle.shelf_doors.proofs.Walking.{empty-range}
use Rattle.shelf_doors.proofs.numbers.live_after.Goals as goal

pub returns-then-n-last-clause-number : goal.returns-then-n-last-clause-number
returns-then-n-last-clause-number g c = λ a holds. sym (ap first_of (empty-range (live a.entries) (c.args.n + 1) c.args.last (omega arith)))
