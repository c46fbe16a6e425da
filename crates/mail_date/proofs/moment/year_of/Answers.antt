use Rattle.std.proofs.Common.{arith}
use Rattle.jiff_core.proofs.SignedLemmas.{signed_casts}
use Rattle.mail_date.proofs.DateLemmas.{year_from_1970}
use Rattle.mail_date.proofs.moment.year_of.Goals as goal

pub overflow_cast-result : goal.overflow_cast-result
overflow_cast-result c = let late = year_from_1970 c.args.day c.requires in omega (arith, signed_casts)

pub returns-clause-value : goal.returns-clause-value
returns-clause-value c = let late = year_from_1970 c.args.day c.requires in omega (arith, signed_casts)

pub returns-clause-bound : goal.returns-clause-bound
returns-clause-bound c = let late = year_from_1970 c.args.day c.requires in omega (arith, signed_casts)
