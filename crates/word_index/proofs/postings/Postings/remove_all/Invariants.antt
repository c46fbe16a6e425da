use Rattle.std.proofs.Common.{take}
use Rattle.word_index.specs.Postings.{LosesAll}
use Rattle.word_index.proofs.postings.Postings.remove_all.Given as goal

abbrev pub invariant-loop-word : goal.invariant-loop-word
invariant-loop-word l = LosesAll l.fn.self l.self (take l.word-index l.words) l.n
