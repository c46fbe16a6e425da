-- What is found is the collision of the archive.
use Rattle.std.proofs.Common.{◌∙◌}
use Rattle.convert_planning.proofs.Colliding.{found_is}
use Rattle.convert_planning.proofs.clashing.collision.Goals as goal

pub returns : goal.returns
returns c = λ a form valid old_is new_is. found_is c.first_clash.result c.as_slice.result.now c.args.old.now c.args.new.now c.first_clash.ensures (c.as_slice.ensures ∙ c.in_ok-ids.ensures) a form valid old_is new_is
