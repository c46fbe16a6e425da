use Rattle.std.proofs.Common.{◌≡◌, ◌∷◌, take}
use Rattle.view_set.proofs.keys.keys_of.Given as goal

abbrev pub invariant-loop-id : goal.invariant-loop-id
invariant-loop-id l = l.keys ≡ l.row.id ∷ take l.id-index l.refs
