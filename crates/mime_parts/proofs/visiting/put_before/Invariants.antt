use Rattle.std.proofs.Common.{◌≡◌, ◌++◌, map, reverse, vec_len}
use Rattle.mime_parts.specs.Visiting.{entity_at}
use Rattle.mime_parts.proofs.visiting.put_before.Given as goal

abbrev pub invariant-loop-span : goal.invariant-loop-span
invariant-loop-span l = l.pending.items ++ reverse (map (entity_at l.levels l.digest) l.rest.items)
    ≡ l.fn.pending.items ++ reverse (map (entity_at l.levels l.digest) l.fn.found)

abbrev pub decreases-loop-span : goal.decreases-loop-span
decreases-loop-span l = vec_len l.rest
