use Rattle.arch_model.proofs.Rewrites.{stays-numbered}
use Rattle.arch_model.proofs.laws.numbers_stay_below_the_next.Goals as goal

pub returns : goal.returns
returns c = stays-numbered
