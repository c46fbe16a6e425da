use Rattle.std.proofs.Common.{◌≤◌, ℕ, Bool, List, length, drop}
use Rattle.imap_states.specs.Patterns.{pattern_then, TellsRests}
use Rattle.imap_states.proofs.patterns.with_pattern.Given as goal

abbrev pub invariant-loop-index : goal.invariant-loop-index
invariant-loop-index l = record {
  within : l.index ≤ length l.pattern;
  tells : (test : List ℕ → Bool) → TellsRests test l.name l.rests → TellsRests (pattern_then (drop l.index l.pattern) test) l.name l.made;
}

abbrev pub decreases-loop-index : goal.decreases-loop-index
decreases-loop-index l = l.index
