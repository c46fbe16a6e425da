use Rattle.std.proofs.Common.{◌≡◌, drop}
use Rattle.query_lang.specs.Matching.{has_word}
use Rattle.query_lang.proofs.matching.has_word.Given as goal

abbrev pub invariant-loop-index : goal.invariant-loop-index
invariant-loop-index l = has_word (drop l.index l.words) l.word ≡ has_word l.words l.word
