-- The entries are joined, or one of them can't be.
use Rattle.store_finding.specs.Files.{as_read}
use Rattle.store_finding.proofs.FindingTold.{where_so}
use Rattle.store_finding.proofs.ReadUpTo.{read_more, read_stopped}
use Rattle.store_finding.proofs.finding.take.Goals as goal

pub returns-in-Ok-clause-taken : goal.returns-in-Ok-clause-taken
returns-in-Ok-clause-taken g c =
    where_so _ _ (g.D.Disk.content c.args.disk.now) c.in-Ok.ensures.taken (λ k takes rs fits up walked. read_more c.args.root.now (as_read k) rs c.args.epoch c.args.joining c.in-Ok.next c.args.seen up walked takes)

pub returns-in-Err-Damaged-clause-taken : goal.returns-in-Err-Damaged-clause-taken
returns-in-Err-Damaged-clause-taken g c =
    where_so _ _ (g.D.Disk.content c.args.disk.now) (rw c.in-Err-Damaged.field-0-is at c.in-Err-Damaged.ensures.taken)
    (λ k takes rs fits up walked. (
      c.args.epoch,
      c.named_file.ensures,
      read_stopped c.law_of_entries.ensures c.args.root.now (as_read k) rs c.args.epoch c.in-Err-Damaged.at c.args.joining c.args.seen fits c.requires.small up walked takes,
    ))
