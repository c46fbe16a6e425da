-- The law of two pieces, at the small door.
use Rattle.std.proofs.Common.{length}
use Rattle.line_door.specs.Echo.{echo_said, echo_request, echo_more}
use Rattle.line_door.proofs.Cutting.{pieces}
use Rattle.line_door.proofs.Echoes.{echo_door}
use Rattle.line_door.proofs.laws.pieces_law.Goals as goal

pub returns : goal.returns
returns c = pieces echo_said echo_request echo_more length echo_door
