-- The law of two calls, at the small door.
use Rattle.std.proofs.Common.{length}
use Rattle.line_door.specs.Echo.{echo_said, echo_request, echo_more}
use Rattle.line_door.proofs.Cutting.{calls}
use Rattle.line_door.proofs.Echoes.{echo_door}
use Rattle.line_door.proofs.laws.calls_law.Goals as goal

pub returns : goal.returns
returns c = calls echo_said echo_request echo_more length echo_door
