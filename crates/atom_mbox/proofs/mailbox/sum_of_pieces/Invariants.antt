use Rattle.std.proofs.Common.{◌≡◌, ◌-◌, ◌^◌, min, sum_by, take}
use Rattle.atom_mbox.specs.MailboxFiles.{told_len}
use Rattle.atom_mbox.proofs.mailbox.sum_of_pieces.Given as goal

abbrev pub invariant-loop-row : goal.invariant-loop-row
invariant-loop-row l = l.len ≡ min (sum_by told_len (take l.row-index l.rows)) (2 ^ 64 - 1)
