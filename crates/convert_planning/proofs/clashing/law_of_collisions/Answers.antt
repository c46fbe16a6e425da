-- As no ids clash.
use Rattle.convert_planning.proofs.Colliding.{none_collides}
use Rattle.convert_planning.proofs.clashing.law_of_collisions.Goals as goal

pub returns : goal.returns
returns c = none_collides c.law_of_clashes.ensures
