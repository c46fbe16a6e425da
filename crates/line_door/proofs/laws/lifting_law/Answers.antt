-- The courses of the small door are courses of a greater one.
use Rattle.line_door.proofs.Echoes.{echo_lifts}
use Rattle.line_door.proofs.laws.lifting_law.Goals as goal

pub returns : goal.returns
returns c = echo_lifts
