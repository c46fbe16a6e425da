use Rattle.line_door.proofs.Watching.{watch_updates}
use Rattle.line_door.proofs.laws.update_law.Goals as goal

pub returns : goal.returns
returns c = watch_updates
