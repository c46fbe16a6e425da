use Rattle.arch_model.proofs.FirstChoice.{first-decides}
use Rattle.arch_model.proofs.laws.first_candidate_decides.Goals as goal

pub returns : goal.returns
returns c = first-decides
