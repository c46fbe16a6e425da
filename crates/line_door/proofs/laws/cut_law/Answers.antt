-- The law of cutting, at the small door.
use Rattle.std.proofs.Common.{length}
use Rattle.line_door.specs.Echo.{echo_said, echo_request, echo_more}
use Rattle.line_door.proofs.Cutting.{cut}
use Rattle.line_door.proofs.Echoes.{echo_door}
use Rattle.line_door.proofs.laws.cut_law.Goals as goal

pub returns : goal.returns
returns c = cut echo_said echo_request echo_more length echo_door
