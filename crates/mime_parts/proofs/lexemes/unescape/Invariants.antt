use Rattle.std.proofs.Common.{◌≡◌, ◌++◌, length}
use Rattle.mime_parts.specs.Lexemes.{unescaped}
use Rattle.mime_parts.proofs.lexemes.unescape.Given as goal

abbrev pub invariant-loop-byte : goal.invariant-loop-byte
invariant-loop-byte l = l.text ++ unescaped l.rest ≡ unescaped l.inside

abbrev pub decreases-loop-byte : goal.decreases-loop-byte
decreases-loop-byte l = length l.rest
