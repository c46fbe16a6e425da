use Rattle.std.proofs.Common.{◌≡◌, ◌++◌, length}
use Rattle.std.specs.List.{flat_map}
use Rattle.mail_reader.specs.Lines.{lines_of}
use Rattle.mime_parts.specs.QuotedPrintable.{line_bytes}
use Rattle.mime_parts.proofs.quoted.unquoted.Given as goal

abbrev pub invariant-loop-rest : goal.invariant-loop-rest
invariant-loop-rest l = l.bytes ++ flat_map line_bytes (lines_of l.rest) ≡ flat_map line_bytes (lines_of l.text)

abbrev pub decreases-loop-rest : goal.decreases-loop-rest
decreases-loop-rest l = length l.rest
