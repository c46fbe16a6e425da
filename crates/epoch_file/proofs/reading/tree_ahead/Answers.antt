use Rattle.git_objects.specs.Objects.{TreeOf}
use Rattle.epoch_file.proofs.Found.{tree_is}
use Rattle.epoch_file.proofs.reading.tree_ahead.Goals as goal

pub returns-in_err-kind-clause-again : goal.returns-in_err-kind-clause-again
returns-in_err-kind-clause-again c = λ kind id rest valid is. absurd (c.in_err-kind.ensures.again (TreeOf kind id) rest valid is)

pub returns-in-Tree-default-clause-again : goal.returns-in-Tree-default-clause-again
returns-in-Tree-default-clause-again c = λ kind id rest valid is.
    let found = c.in_ok-kind.ensures.again (TreeOf kind id) rest valid is in
    (tree_is c.in_ok-kind.field-0.0 c.in-Tree-default.kind c.in-Tree-default.id-0 kind id c.in-Tree-default.is-0 found.0, found.1)
