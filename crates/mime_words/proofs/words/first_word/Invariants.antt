use Rattle.std.proofs.Common.{length, take, drop, ◌-◌, ◌≡◌, ◌≤◌, ◌++◌}
use Rattle.mime_words.specs.Words.{pieces, plain}
use Rattle.mime_words.proofs.words.first_word.Given as goal

abbrev pub invariant-loop-at : goal.invariant-loop-at
invariant-loop-at l = record {
  within : l.at ≤ length l.value;
  cut : pieces l.value ≡ plain (take l.at l.value) ++ pieces (drop l.at l.value);
}

abbrev pub decreases-loop-at : goal.decreases-loop-at
decreases-loop-at l = length l.value - l.at
