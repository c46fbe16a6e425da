use Rattle.std.proofs.Common.{◌≡◌, ◌++◌, take, drop, length, ℕ}
use Rattle.text_words.specs.Words.{words_of}
use Rattle.text_words.proofs.words.push_words.Given as goal

abbrev pub invariant-loop-run : goal.invariant-loop-run
invariant-loop-run l = (count : ℕ) × (l.into ≡ l.fn.into ++ take count (words_of l.text)) × (drop count (words_of l.text) ≡ words_of l.rest)

abbrev pub decreases-loop-run : goal.decreases-loop-run
decreases-loop-run l = length l.rest
