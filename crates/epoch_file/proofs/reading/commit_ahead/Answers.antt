use Rattle.git_objects.specs.Objects.{CommitOf}
use Rattle.epoch_file.proofs.Found.{commit_is}
use Rattle.epoch_file.proofs.reading.commit_ahead.Goals as goal

pub returns-in_err-content-clause-again : goal.returns-in_err-content-clause-again
returns-in_err-content-clause-again c = λ content rest fits is. absurd (c.in_err-content.ensures.again (CommitOf content) rest fits is)

pub returns-in-Commit-default-clause-again : goal.returns-in-Commit-default-clause-again
returns-in-Commit-default-clause-again c = λ content rest fits is.
    let found = c.in_ok-content.ensures.again (CommitOf content) rest fits is in
    (commit_is c.in_ok-content.field-0.0 c.in-Commit-default.content content c.in-Commit-default.is-0 found.0, found.1)
