use Rattle.arch_model.proofs.Deliveries.{shows-delivered}
use Rattle.arch_model.proofs.laws.delivered_is_shown.Goals as goal

pub returns : goal.returns
returns c = shows-delivered
