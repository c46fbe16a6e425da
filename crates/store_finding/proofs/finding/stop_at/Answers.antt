-- The epoch is damaged at the front, or after some entries.
use Rattle.std.proofs.Common.{arith}
use Rattle.store_finding.specs.Damage.{named_length}
use Rattle.store_finding.specs.Files.{as_read, epoch_file_of}
use Rattle.disk_model.specs.Disk.{bytes_of}
use Rattle.store_finding.proofs.FindingTold.{where_any, where_both, where_so}
use Rattle.store_finding.proofs.ReadUpTo.{read_front, left_undamaged, short}
use Rattle.store_finding.proofs.finding.stop_at.Goals as goal

pub returns-then-at-le8-clause-stops : goal.returns-then-at-le8-clause-stops
returns-then-at-le8-clause-stops g c =
    where_any _ (g.D.Disk.content c.args.disk.now) (λ k rs fits some up damaged. (c.args.epoch, c.named_file-file.ensures, read_front c.args.root.now (as_read k) rs c.args.epoch c.args.at c.args.joining c.requires.small some c.if-at-le8.true up damaged))

pub returns-in-Ok-clause-stops : goal.returns-in-Ok-clause-stops
returns-in-Ok-clause-stops g c =
    where_both _ _ _ _ _ c.walk.ensures.same (rw c.named_file-file.ensures at c.in-Ok.ensures.walked) c.stop_in.ensures.stops (λ k walked stops rs fits some up damaged. stops rs fits up damaged walked)

pub returns-in-Err-Damaged-clause-stops : goal.returns-in-Err-Damaged-clause-stops
returns-in-Err-Damaged-clause-stops g c =
    let root = c.args.root.now in
    where_so _ _ (g.D.Disk.content c.args.disk.now) (rw c.named_file-file.ensures at (rw c.in-Err-Damaged.field-0-is at c.in-Err-Damaged.ensures.walked))
    (λ k again rs fits some up damaged. absurd (left_undamaged root.config.form c.law_of_entries.ensures (named_length root c.args.epoch) c.args.at c.in-Err-Damaged.field-0-0 (bytes_of (as_read k (epoch_file_of root c.args.epoch))) (short root c.args.epoch fits c.requires.small)
    (let high = c.if-at-le8.false in omega (arith, high)) damaged again))
