use Rattle.std.proofs.Common.{◌≡◌, ◌+◌, ◌≤◌, min, drop}
use Rattle.std.specs.List.{sum_by}
use Rattle.pop3_reader.specs.Maildrops.{octets_of, greatest_count, total_octets}
use Rattle.pop3_reader.proofs.maildrop.Maildrop.total_octets.Given as goal

abbrev pub invariant-loop-mail : goal.invariant-loop-mail
invariant-loop-mail l = (l.total ≤ greatest_count) × (min (l.total + sum_by octets_of (drop l.mail-index l.mails)) greatest_count ≡ total_octets l.mails)
