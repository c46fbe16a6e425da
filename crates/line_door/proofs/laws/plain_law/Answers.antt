-- The law of plain courses, at the small door.
use Rattle.std.proofs.Common.{length}
use Rattle.line_door.specs.Echo.{echo_said, echo_request, echo_more}
use Rattle.line_door.proofs.Cutting.{by_rules, is_course, is_act}
use Rattle.line_door.proofs.Echoes.{echo_door}
use Rattle.line_door.proofs.laws.plain_law.Goals as goal

pub returns : goal.returns
returns c = (by_rules echo_said echo_request echo_more length echo_door, is_course echo_said echo_request echo_more length echo_door, is_act echo_said echo_request echo_more length echo_door)
