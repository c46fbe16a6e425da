use Rattle.std.proofs.Common.{◌<◌, length, subst, arith, rules}
use Rattle.store_finding.specs.Kept.{StoreState}
use Rattle.archive_core.specs.Walks.{lines_kept}
use Rattle.archive_core.proofs.OpeningRows.{unread-well, unread-cause, looked, caused}
use Rattle.archive_core.proofs.Walking.{lines-length}
use Rattle.archive_core.proofs.archive.DiskArchive.rows.Goals as goal

pub returns-in-Ok-clause-rows : goal.returns-in-Ok-clause-rows
returns-in-Ok-clause-rows g c = λ a cache store. c.in-Ok.ensures.rows a (cache, rw (c.self.view_is) store)

pub returns-in-Err-clause-well : goal.returns-in-Err-clause-well
returns-in-Err-clause-well g c = λ a cache store. unread-well c.args.self.now _ c.in-Err.unread.why c.unopened.result c.unopened.ensures (c.in-Err.ensures.undamaged a (cache, rw (c.self.view_is) store))

pub returns-in-Err-clause-sound : goal.returns-in-Err-clause-sound
returns-in-Err-clause-sound g c = λ sound. unread-well c.args.self.now _ c.in-Err.unread.why c.unopened.result c.unopened.ensures (c.in-Err.ensures.sound (rw (c.self.view_is) sound))

pub returns-in-Err-clause-cause : goal.returns-in-Err-clause-cause
returns-in-Err-clause-cause g c = caused g.D.Disk.faults _ c.args.disk.now c.rebuild.new.walked.disk.now _ (let same = c.in-Err.ensures.walk.same.0 in search rules)
    (unread-cause c.args.self.now _ (g.D.Disk.faults c.args.disk.now) (g.D.Disk.faults c.rebuild.new.walked.disk.now) c.in-Err.unread.why c.unopened.result c.unopened.ensures c.in-Err.ensures.walk.later c.in-Err.ensures.cause)

-- The disk is the one that was lent, and was only read.
pub returns-in-Ok-clause-looks : goal.returns-in-Ok-clause-looks
returns-in-Ok-clause-looks g c = looked g.D.Disk c.args.disk.now c.rebuild.new.walked.disk.now _ (let same = c.in-Ok.ensures.walk.same.0 in search rules) c.in-Ok.ensures.walk.same.2

pub returns-in-Err-clause-looks : goal.returns-in-Err-clause-looks
returns-in-Err-clause-looks g c = looked g.D.Disk c.args.disk.now c.rebuild.new.walked.disk.now _ (let same = c.in-Err.ensures.walk.same.0 in search rules) c.in-Err.ensures.walk.same.2

-- The walk stopped at an entry of the store.
pub unopened-requires : goal.unopened-requires
unopened-requires g c =
    let within : c.in-Err.unread.index < length (lines_kept c.self.inside.store.entries) = c.in-Err.ensures.within in
    let same = lines-length c.self.inside.store.entries in
    record { there = subst (λ (v : StoreState). c.in-Err.unread.index < length v.entries) c.self.view_is (omega (arith, within, same)) }
