use Rattle.std.proofs.Common.{◌≡◌, take}
use Rattle.word_index.specs.Marks.{mark_of}
use Rattle.word_index.proofs.marks.mark_of.Given as goal

abbrev pub invariant-loop-byte : goal.invariant-loop-byte
invariant-loop-byte l = record { mark : l.mark ≡ mark_of (take l.byte-index l.text) }
