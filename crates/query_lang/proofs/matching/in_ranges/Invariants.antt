use Rattle.std.proofs.Common.{◌≡◌, length}
use Rattle.query_lang.specs.Matching.{in_ranges}
use Rattle.query_lang.proofs.matching.in_ranges.Given as goal

abbrev pub invariant-loop-rest : goal.invariant-loop-rest
invariant-loop-rest l = in_ranges l.rest l.day ≡ in_ranges l.days l.day

abbrev pub decreases-loop-rest : goal.decreases-loop-rest
decreases-loop-rest l = length l.rest
