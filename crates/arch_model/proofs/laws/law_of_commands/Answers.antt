use Rattle.arch_model.proofs.Commands.{keeps_valid}
use Rattle.arch_model.proofs.laws.law_of_commands.Goals as goal

pub returns-clause-valid : goal.returns-clause-valid
returns-clause-valid c = keeps_valid c.law_of_taken_texts.ensures
