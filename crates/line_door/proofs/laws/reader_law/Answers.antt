use Rattle.line_door.proofs.Watching.{watch_laws}
use Rattle.line_door.proofs.laws.reader_law.Goals as goal

pub returns : goal.returns
returns c = watch_laws
