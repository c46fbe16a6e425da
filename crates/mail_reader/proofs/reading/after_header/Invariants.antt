use Rattle.std.proofs.Common.{◌≡◌, length}
use Rattle.mail_reader.specs.Lines.{lines_of, after_header}
use Rattle.mail_reader.proofs.reading.after_header.Given as goal

abbrev pub invariant-loop-len : goal.invariant-loop-len
invariant-loop-len l = after_header (lines_of l.rest) ≡ after_header (lines_of l.text)

abbrev pub decreases-loop-len : goal.decreases-loop-len
decreases-loop-len l = length l.rest
