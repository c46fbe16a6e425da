use Rattle.std.proofs.Common.{◌≡◌, ◌+◌, length}
use Rattle.std.specs.List.{count_by}
use Rattle.mail_reader.specs.Lines.{lines_of}
use Rattle.mail_forms.specs.Mailboxes.{is_from_line}
use Rattle.mail_forms.proofs.mailbox.from_lines.Given as goal

abbrev pub invariant-loop-rest : goal.invariant-loop-rest
invariant-loop-rest l = l.found + count_by is_from_line (lines_of l.rest) ≡ count_by is_from_line (lines_of l.text)

abbrev pub decreases-loop-rest : goal.decreases-loop-rest
decreases-loop-rest l = length l.rest
