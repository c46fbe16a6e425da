use Rattle.std.proofs.Common.{Ok, Err}
use Rattle.archive_cli.proofs.Committing.{opened-none}
use Rattle.archive_cli.proofs.OnDisk.{opened-live, opened-reindexes, unopened-reindexes, opened-stands, unopened-stands, reindexed-cause, refused-cause}
use Rattle.archive_cli.proofs.disk_commands.reindex.Goals as goal

pub returns-in-Ok-clause-crash : goal.returns-in-Ok-clause-crash
returns-in-Ok-clause-crash g c = rw c.into_disk.ensures c.in-Ok.ensures.opened.before

pub returns-in-Ok-clause-done : goal.returns-in-Ok-clause-done
returns-in-Ok-clause-done g c = λ a cache reads.
    let store = c.in-Ok.ensures.opened.done a cache reads in
    rw c.into_disk.ensures
    (opened-reindexes c.in-Ok.engine.view cache a (g.D.Disk.content c.in-Ok.engine.disk) c.message_count-live.result store (c.message_count-live.ensures a (cache, store, c.in-Ok.ensures.rows a cache reads, c.in-Ok.ensures.opened.settled)))

pub returns-in-Ok-clause-answer : goal.returns-in-Ok-clause-answer
returns-in-Ok-clause-answer g c = opened-live c.in-Ok.engine.view (g.D.Disk.content c.args.disk) c.message_count-live.result c.in-Ok.ensures.opened.answer

pub returns-in-Ok-clause-stands : goal.returns-in-Ok-clause-stands
returns-in-Ok-clause-stands g c = rw c.into_disk.ensures
    (opened-stands g.D.Disk g.met.D.Disk.counts_now g.met.D.Disk.reads_fit c.args.disk c.in-Ok.engine.disk c.in-Ok.engine.view c.in-Ok.ensures.opened.done c.in-Ok.ensures.opened.first)

pub returns-in-Ok-clause-cause : goal.returns-in-Ok-clause-cause
returns-in-Ok-clause-cause g c = rw c.into_disk.ensures
    (reindexed-cause (g.D.Disk.faults c.args.disk) (g.D.Disk.faults c.in-Ok.engine.disk) _ (c.in-Ok.ensures.opened.cause.kept (λ fault. absurd (cc fault))))

pub returns-in-Err-clause-cause : goal.returns-in-Err-clause-cause
returns-in-Err-clause-cause g c = refused-cause (g.D.Disk.faults c.args.disk) (g.D.Disk.faults c.in-Err.field-0.disk) c.in-Err.field-0.why c.in-Err.ensures.opened.cause

pub returns-in-Err-clause-crash : goal.returns-in-Err-clause-crash
returns-in-Err-clause-crash g c = c.in-Err.ensures.opened.before

pub returns-in-Err-clause-done : goal.returns-in-Err-clause-done
returns-in-Err-clause-done g c = λ a cache reads.
    unopened-reindexes cache a c.in-Err.field-0.why (g.D.Disk.content c.args.disk) (g.D.Disk.content c.in-Err.field-0.disk) reads (c.in-Err.ensures.opened.well a cache reads) c.in-Err.ensures.refused

pub returns-in-Err-clause-stands : goal.returns-in-Err-clause-stands
returns-in-Err-clause-stands g c = λ s cache all. unopened-stands g.D.Disk g.met.D.Disk.counts_now g.met.D.Disk.reads_fit s cache c.args.disk c.in-Err.field-0.disk c.in-Err.field-0.why all c.in-Err.ensures.opened.before c.in-Err.ensures.opened.well c.in-Err.ensures.opened.first

pub returns-in-Ok-clause-files : goal.returns-in-Ok-clause-files
returns-in-Ok-clause-files g c =
    let opened = c.in-Ok.ensures.opened in
    rw c.into_disk.ensures (c.in-Ok.engine.view, opened.answer, opened.kept, opened.done, opened.settled)

pub returns-in-Ok-clause-crash_root : goal.returns-in-Ok-clause-crash_root
returns-in-Ok-clause-crash_root g c = rw c.into_disk.ensures (opened-none g.D.Disk c.args.disk c.in-Ok.engine.disk (Ok c.in-Ok.engine.view) c.in-Ok.ensures.opened.crash_root)

pub returns-in-Err-clause-files : goal.returns-in-Err-clause-files
returns-in-Err-clause-files g c = c.in-Err.ensures.refused

pub returns-in-Err-clause-crash_root : goal.returns-in-Err-clause-crash_root
returns-in-Err-clause-crash_root g c = opened-none g.D.Disk c.args.disk c.in-Err.field-0.disk (Err c.in-Err.field-0.why) c.in-Err.ensures.opened.crash_root
