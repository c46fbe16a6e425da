use Rattle.std.proofs.Common.{arith, rules}
use Rattle.archive_core.proofs.RisingPlaces.{follows-last, follows-none}
use Rattle.archive_core.proofs.placing.may_follow.Goals as goal

pub returns-in-None : goal.returns-in-None
returns-in-None c = λ told entry rise. follows-none c.args.places.now c.args.number entry c.in-None.ensures.item.3

pub returns-in-Some : goal.returns-in-Some
returns-in-Some c = λ yes entry rise. follows-last 0 c.args.places.now c.in-Some.last.now c.args.number entry rise (search rules) (search rules) (omega arith)
