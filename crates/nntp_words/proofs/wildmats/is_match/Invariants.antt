use Rattle.std.proofs.Common.{◌≤◌, length, drop}
use Rattle.nntp_words.specs.Wildmats.{pattern_matches, Tells}
use Rattle.nntp_words.proofs.wildmats.is_match.Given as goal

abbrev pub invariant-loop-index : goal.invariant-loop-index
invariant-loop-index l = record {
  within : l.index ≤ length l.pattern;
  tells : Tells (pattern_matches (drop l.index l.pattern)) l.name l.ends;
}

abbrev pub decreases-loop-index : goal.decreases-loop-index
decreases-loop-index l = l.index
