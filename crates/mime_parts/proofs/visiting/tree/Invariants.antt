use Rattle.std.proofs.Common.{◌-◌, length}
use Rattle.mime_parts.proofs.Turns.{Going}
use Rattle.mime_parts.proofs.visiting.tree.Given as goal

abbrev pub invariant-loop-entity : goal.invariant-loop-entity
invariant-loop-entity l = Going l.text l.parts l.pending.items

abbrev pub decreases-loop-entity : goal.decreases-loop-entity
decreases-loop-entity l = 1001 - length l.parts
