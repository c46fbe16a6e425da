use Rattle.std.proofs.Common.{take}
use Rattle.std.specs.Str.{str_to_ascii_lowercase}
use Rattle.mail_reader.specs.Hashing.{HasHashed}
use Rattle.mail_reader.proofs.content.hash_lower.Given as goal

abbrev pub invariant-loop-byte : goal.invariant-loop-byte
invariant-loop-byte l = HasHashed l.fn.hasher l.hasher (str_to_ascii_lowercase (take l.byte-index l.name))
