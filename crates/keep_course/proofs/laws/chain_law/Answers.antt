-- The law of courses in order, at the small keeper.
use Rattle.keep_course.specs.Laws.{HistoryLeaves}
use Rattle.arch_model.proofs.Keepers.{passes-chain}
use Rattle.keep_course.proofs.laws.chain_law.Goals as goal

pub returns : goal.returns
returns c = λ old mid new ss t us first second. passes-chain HistoryLeaves old mid new ss t us first second
