-- The law of the line at the front of a door that skips lines.
use Rattle.line_door.proofs.Passages.{skipping_laws}
use Rattle.line_door.proofs.laws.skipping_law.Goals as goal

pub returns : goal.returns
returns c = skipping_laws
