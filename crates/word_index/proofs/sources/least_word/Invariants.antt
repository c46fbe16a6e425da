use Rattle.std.proofs.Common.{◌≡◌, ◌⊎◌}
use Rattle.word_index.specs.Sources.{IsWordSource}
use Rattle.word_index.proofs.sources.least_word.Given as goal

abbrev pub invariant-loop-word : goal.invariant-loop-word
invariant-loop-word l = (l.least.source ≡ l.fn.least.source) ⊎ IsWordSource l.asked l.least.source
