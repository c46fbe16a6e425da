use Rattle.std.proofs.Common.{◌≡◌, ◌++◌, take}
use Rattle.query_lang.proofs.reading.push_copies.Given as goal

abbrev pub invariant-loop-index : goal.invariant-loop-index
invariant-loop-index l = l.asked ≡ l.fn.asked ++ take l.index l.words
