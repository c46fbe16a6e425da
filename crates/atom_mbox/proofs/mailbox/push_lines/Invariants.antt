use Rattle.std.proofs.Common.{◌≡◌, ◌++◌, length, take}
use Rattle.std.specs.List.{flat_map}
use Rattle.mail_reader.specs.Lines.{lines_of}
use Rattle.mail_forms.specs.Mailboxes.{quoted}
use Rattle.atom_mbox.proofs.mailbox.push_lines.Given as goal

abbrev pub invariant-loop-rest : goal.invariant-loop-rest
invariant-loop-rest l = record {
  pushed : l.into ++ flat_map quoted (lines_of l.rest) ≡ l.fn.into ++ flat_map quoted (lines_of l.text);
  kept : take (length l.fn.into) l.into ≡ l.fn.into;
}

abbrev pub decreases-loop-rest : goal.decreases-loop-rest
decreases-loop-rest l = length l.rest
