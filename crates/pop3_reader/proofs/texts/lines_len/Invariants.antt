use Rattle.std.proofs.Common.{◌≡◌, ◌+◌, ◌≤◌, length}
use Rattle.pop3_reader.specs.Texts.{first_lines}
use Rattle.pop3_reader.proofs.texts.lines_len.Given as goal

abbrev pub invariant-loop-left : goal.invariant-loop-left
invariant-loop-left l = (length l.rest ≤ length l.text) × (length (first_lines l.count l.text) + length l.rest ≡ length l.text + length (first_lines l.left l.rest))

abbrev pub decreases-loop-left : goal.decreases-loop-left
decreases-loop-left l = length l.rest
