use Rattle.std.proofs.Common.{◌≡◌, ◌++◌, take, drop}
use Rattle.std.specs.Str.{str_to_ascii_lowercase}
use Rattle.text_words.proofs.packed_words.lower.Given as goal

abbrev pub invariant-loop-byte : goal.invariant-loop-byte
invariant-loop-byte l = l.bytes ≡ str_to_ascii_lowercase (take l.byte-index l.fn.bytes) ++ drop l.byte-index l.fn.bytes
