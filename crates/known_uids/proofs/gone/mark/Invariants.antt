use Rattle.std.proofs.Common.{◌≡◌, take}
use Rattle.known_uids.specs.Gone.{struck}
use Rattle.known_uids.proofs.gone.mark.Given as goal

abbrev pub invariant-loop-sequence : goal.invariant-loop-sequence
invariant-loop-sequence l = l.uids ≡ struck l.fn.uids (take l.sequence-index l.gone)
