use Rattle.std.proofs.Common.{codes}
use Rattle.git_objects.specs.Fronts.{followed}
use Rattle.git_objects.specs.Commits.{IsNumber, number_part}
use Rattle.git_objects.proofs.Composing.{lacks-word}
use Rattle.git_objects.proofs.commit_reading.read_committed.Goals as goal

pub returns-in_err-rest : goal.returns-in_err-rest
returns-in_err-rest c = rw c.from_residual.ensures
    (lacks-word IsNumber (followed (number_part 32) (codes "+0000\n\n")) c.args.bytes.now (codes "\ncommitter piv2 <piv2@localhost> ") c.in_err-rest.ensures)
