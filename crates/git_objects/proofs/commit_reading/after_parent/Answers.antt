use Rattle.git_objects.proofs.CommitLines.{parent_there, parent_missing}
use Rattle.git_objects.proofs.commit_reading.after_parent.Goals as goal

pub returns-in-Some : goal.returns-in-Some
returns-in-Some c = parent_there c.args.bytes.now c.in-Some.id.now c.after_line.result c.in-Some.ensures c.after_line.ensures

pub returns-in-None : goal.returns-in-None
returns-in-None c = parent_missing c.args.bytes.now c.in-None.ensures
