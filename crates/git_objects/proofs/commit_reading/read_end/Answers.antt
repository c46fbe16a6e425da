use Rattle.git_objects.specs.CleanText.{IsCleanText}
use Rattle.git_objects.specs.Commits.{IsNumber, committed_part, text_part}
use Rattle.git_objects.proofs.Composing.{lacks-first, lacks-second, begins-both}
use Rattle.git_objects.proofs.commit_reading.read_end.Goals as goal

pub returns-in_err-committed : goal.returns-in_err-committed
returns-in_err-committed c = rw c.from_residual.ensures
    (lacks-first IsNumber IsCleanText committed_part (text_part 10) c.args.bytes.now c.in_err-committed.ensures)

pub returns-in_err-subject : goal.returns-in_err-subject
returns-in_err-subject c = rw c.from_residual-in_err-subject.ensures
    (lacks-second IsNumber IsCleanText committed_part (text_part 10) c.args.bytes.now c.in_ok-committed.committed c.in_ok-committed.rest.now c.in_ok-committed.ensures c.in_err-subject.ensures)

pub returns : goal.returns
returns c =
    begins-both IsNumber IsCleanText committed_part (text_part 10) c.args.bytes.now c.in_ok-committed.committed c.in_ok-committed.rest.now c.in_ok-subject.subject.now c.in_ok-subject.rest.now
    c.in_ok-committed.ensures c.in_ok-subject.ensures
