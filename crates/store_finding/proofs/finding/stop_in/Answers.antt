-- The offset is that of the damage, or one before it is.
use Rattle.store_finding.specs.Files.{as_read}
use Rattle.store_finding.proofs.FindingTold.{where_so}
use Rattle.store_finding.proofs.ReadUpTo.{read_left, read_left_stopped}
use Rattle.store_finding.proofs.finding.stop_in.Goals as goal

pub returns-in-Ok-clause-stops : goal.returns-in-Ok-clause-stops
returns-in-Ok-clause-stops g c =
    where_so _ _ (g.D.Disk.content c.args.disk.now) c.in-Ok.ensures.taken
    (λ k takes rs fits up damaged walked. (
      c.args.epoch,
      c.named_file-file.ensures,
      read_left c.law_of_epochs.ensures c.args.root.now (as_read k) rs c.args.epoch c.args.at c.args.joining c.in-Ok._joined c.args.seen fits c.requires.small c.requires.past up damaged walked takes,
    ))

pub returns-in-Err-Damaged-clause-stops : goal.returns-in-Err-Damaged-clause-stops
returns-in-Err-Damaged-clause-stops g c =
    where_so _ _ (g.D.Disk.content c.args.disk.now) (rw c.in-Err-Damaged.field-0-is at c.in-Err-Damaged.ensures.taken)
    (λ k takes rs fits up damaged walked. (
      c.args.epoch,
      c.named_file-file.ensures,
      read_left_stopped c.law_of_entries.ensures c.law_of_epochs.ensures c.args.root.now (as_read k) rs c.args.epoch c.args.at c.in-Err-Damaged.first c.args.joining c.args.seen fits c.requires.small c.requires.past up damaged walked takes,
    ))
