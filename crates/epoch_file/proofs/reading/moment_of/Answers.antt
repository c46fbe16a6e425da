use Rattle.std.proofs.Common.{◌∙◌}
use Rattle.epoch_file.proofs.reading.moment_of.Goals as goal

pub returns-in_err-moment-clause-again : goal.returns-in_err-moment-clause-again
returns-in_err-moment-clause-again c = λ form commit valid is small. c.from_residual.ensures ∙ c.in_err-moment.ensures form commit valid is

pub returns-clause-again : goal.returns-clause-again
returns-clause-again c = λ form commit valid is small. c.in_ok-moment.ensures form commit valid is
