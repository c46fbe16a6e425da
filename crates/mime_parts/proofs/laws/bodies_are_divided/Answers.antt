use Rattle.mime_parts.proofs.Cutting.{divides}
use Rattle.mime_parts.proofs.laws.bodies_are_divided.Goals as goal

pub returns : goal.returns
returns c = divides
