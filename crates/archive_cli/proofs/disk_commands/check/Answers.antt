use Rattle.std.proofs.Common.{Ok, Err}
use Rattle.archive_core.proofs.Standing.{store_keeps}
use Rattle.archive_cli.proofs.Committing.{opened-none}
use Rattle.archive_cli.proofs.OnDisk.{opened-checks, opened-as, unopened-checks, opened-stands, unopened-stands, checked-cause, refused-cause}
use Rattle.archive_cli.proofs.disk_commands.check.Goals as goal

pub returns-in-Ok-clause-crash : goal.returns-in-Ok-clause-crash
returns-in-Ok-clause-crash g c = c.in-Ok.ensures.opened.before

pub returns-in-Ok-clause-done : goal.returns-in-Ok-clause-done
returns-in-Ok-clause-done g c = λ a cache reads.
    let store = c.in-Ok.ensures.opened.done a cache reads in
    opened-checks c.in-Ok.counted cache a (g.D.Disk.content c.open.new.disk) c.entry_count.result c.message_count.result c.next_of_root.result store c.entry_count.ensures
    (c.message_count.ensures a (store_keeps c.in-Ok.counted cache a (g.D.Disk.content c.open.new.disk) store)) c.next_of_root.ensures

pub returns-in-Ok-clause-answer : goal.returns-in-Ok-clause-answer
returns-in-Ok-clause-answer g c = opened-as c.in-Ok.counted (g.D.Disk.content c.args.disk) c.entry_count.result c.message_count.result c.next_of_root.result c.in-Ok.ensures.opened.answer c.entry_count.ensures c.next_of_root.ensures

pub returns-in-Ok-clause-stands : goal.returns-in-Ok-clause-stands
returns-in-Ok-clause-stands g c = opened-stands g.D.Disk g.met.D.Disk.counts_now g.met.D.Disk.reads_fit c.args.disk c.open.new.disk c.in-Ok.counted
    c.in-Ok.ensures.opened.done c.in-Ok.ensures.opened.first

pub returns-in-Ok-clause-cause : goal.returns-in-Ok-clause-cause
returns-in-Ok-clause-cause g c = checked-cause (g.D.Disk.faults c.args.disk) (g.D.Disk.faults c.open.new.disk) c.entry_count.result c.message_count.result c.next_of_root.result (c.in-Ok.ensures.opened.cause.kept (λ fault. absurd (cc fault)))

pub returns-in-Err-clause-cause : goal.returns-in-Err-clause-cause
returns-in-Err-clause-cause g c = refused-cause (g.D.Disk.faults c.args.disk) (g.D.Disk.faults c.open.new.disk) c.in-Err.why c.in-Err.ensures.opened.cause

pub returns-in-Err-clause-crash : goal.returns-in-Err-clause-crash
returns-in-Err-clause-crash g c = c.in-Err.ensures.opened.before

pub returns-in-Err-clause-done : goal.returns-in-Err-clause-done
returns-in-Err-clause-done g c = λ a cache reads.
    unopened-checks cache a c.in-Err.why (g.D.Disk.content c.args.disk) (g.D.Disk.content c.open.new.disk) reads (c.in-Err.ensures.opened.well a cache reads) c.in-Err.ensures.refused

pub returns-in-Err-clause-stands : goal.returns-in-Err-clause-stands
returns-in-Err-clause-stands g c = λ s cache all. unopened-stands g.D.Disk g.met.D.Disk.counts_now g.met.D.Disk.reads_fit s cache c.args.disk c.open.new.disk c.in-Err.why all c.in-Err.ensures.opened.before c.in-Err.ensures.opened.well c.in-Err.ensures.opened.first

pub returns-in-Ok-clause-files : goal.returns-in-Ok-clause-files
returns-in-Ok-clause-files g c =
    let opened = c.in-Ok.ensures.opened in
    (c.in-Ok.counted, opened.answer, opened.kept, opened.done, opened.settled)

pub returns-in-Ok-clause-crash_root : goal.returns-in-Ok-clause-crash_root
returns-in-Ok-clause-crash_root g c = opened-none g.D.Disk c.args.disk c.open.new.disk (Ok c.in-Ok.counted) c.in-Ok.ensures.opened.crash_root

pub returns-in-Err-clause-files : goal.returns-in-Err-clause-files
returns-in-Err-clause-files g c = c.in-Err.ensures.refused

pub returns-in-Err-clause-crash_root : goal.returns-in-Err-clause-crash_root
returns-in-Err-clause-crash_root g c = opened-none g.D.Disk c.args.disk c.open.new.disk (Err c.in-Err.why) c.in-Err.ensures.opened.crash_root
