use Rattle.arch_model.proofs.Deliveries.{keeps-numbers, takes-from-view}
use Rattle.arch_model.proofs.laws.numbers_keep_their_texts.Goals as goal

pub returns-clause-delivered : goal.returns-clause-delivered
returns-clause-delivered c = keeps-numbers

pub returns-clause-removed : goal.returns-clause-removed
returns-clause-removed c = takes-from-view
