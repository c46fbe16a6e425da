use Rattle.std.proofs.Common.{◌≡◌, ◌++◌, length}
use Rattle.mime_parts.specs.QuotedPrintable.{decoded_escapes}
use Rattle.mime_parts.proofs.quoted.push_escapes.Given as goal

abbrev pub invariant-loop-rest : goal.invariant-loop-rest
invariant-loop-rest l = l.into ++ decoded_escapes l.rest ≡ l.fn.into ++ decoded_escapes l.text

abbrev pub decreases-loop-rest : goal.decreases-loop-rest
decreases-loop-rest l = length l.rest
