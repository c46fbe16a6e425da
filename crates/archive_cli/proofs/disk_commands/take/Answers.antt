use Rattle.std.proofs.Common.{Err}
use Rattle.archive_core.specs.Commands.{FilesFor, way_of}
use Rattle.epoch_store.specs.Promises.{GoesOnBy}
use Rattle.archive_cli.specs.DiskCommands.{taking}
use Rattle.root_slots.proofs.OneRoots.{none_begins}
use Rattle.archive_cli.proofs.OnDisk.{unopened-takes, unopened-stands, taken-stands, taken-runs, unopened-runs, answered-cause, refused-cause}
use Rattle.archive_cli.proofs.Committing.{opened-begins, opened-commits, opened-none, opened-refused, opened-some}
use Rattle.archive_cli.proofs.disk_commands.take.Goals as goal

pub returns-in-Ok-clause-crash : goal.returns-in-Ok-clause-crash
returns-in-Ok-clause-crash g c = taken-runs g.D.Disk g.met.D.Disk.counts_now g.met.D.Disk.reads_fit c.args.disk c.open.new.disk c.in-Ok.archive c.in-Ok.ensures.opened.done c.in-Ok.ensures.opened.first c.answered-answer.new.disk (way_of c.args.command.now) (taking c.args.command.now c.args.moment)
    c.answered-answer.ensures.crash c.in-Ok.ensures.opened.answer

pub returns-in-Ok-clause-stands : goal.returns-in-Ok-clause-stands
returns-in-Ok-clause-stands g c = taken-stands g.D.Disk g.met.D.Disk.counts_now g.met.D.Disk.reads_fit c.args.disk c.open.new.disk c.in-Ok.archive c.in-Ok.ensures.opened.done c.in-Ok.ensures.opened.first c.answered-answer.new.disk (way_of c.args.command.now) (taking c.args.command.now c.args.moment)
    c.answered-answer.ensures.crash c.answered-answer.result c.answered-answer.ensures.done

pub returns-in-Ok-clause-done : goal.returns-in-Ok-clause-done
returns-in-Ok-clause-done g c = λ a cache reads. c.answered-answer.ensures.done a cache (c.in-Ok.ensures.opened.done a cache reads)

pub returns-in-Ok-clause-cause : goal.returns-in-Ok-clause-cause
returns-in-Ok-clause-cause g c = answered-cause (g.D.Disk.faults c.args.disk) (g.D.Disk.faults c.open.new.disk) (g.D.Disk.faults c.answered-answer.new.disk) c.answered-answer.result (c.in-Ok.ensures.opened.cause.kept (λ fault. absurd (cc fault))) c.answered-answer.ensures.cause

pub returns-in-Err-clause-cause : goal.returns-in-Err-clause-cause
returns-in-Err-clause-cause g c = refused-cause (g.D.Disk.faults c.args.disk) (g.D.Disk.faults c.open.new.disk) c.in-Err.why c.in-Err.ensures.opened.cause

pub returns-in-Err-clause-crash : goal.returns-in-Err-clause-crash
returns-in-Err-clause-crash g c = unopened-runs g.D.Disk g.met.D.Disk.counts_now g.met.D.Disk.reads_fit c.args.disk c.open.new.disk (way_of c.args.command.now) (taking c.args.command.now c.args.moment) c.in-Err.ensures.opened.before

pub returns-in-Err-clause-stands : goal.returns-in-Err-clause-stands
returns-in-Err-clause-stands g c = λ s cache all. unopened-stands g.D.Disk g.met.D.Disk.counts_now g.met.D.Disk.reads_fit s cache c.args.disk c.open.new.disk c.in-Err.why all c.in-Err.ensures.opened.before c.in-Err.ensures.opened.well c.in-Err.ensures.opened.first

pub returns-in-Err-clause-done : goal.returns-in-Err-clause-done
returns-in-Err-clause-done g c = λ a cache reads.
    unopened-takes (way_of c.args.command.now) cache a (taking c.args.command.now c.args.moment a) c.in-Err.why (g.D.Disk.content c.args.disk) (g.D.Disk.content c.open.new.disk) reads (c.in-Err.ensures.opened.well a cache reads) c.in-Err.ensures.refused

pub returns-in-Ok-clause-files : goal.returns-in-Ok-clause-files
returns-in-Ok-clause-files g c =
    let opened = c.in-Ok.ensures.opened in
    opened-refused g.D.Disk (g.D.Disk.content c.args.disk) c.open.new.disk c.answered-answer.new.disk c.answered-answer.result (c.in-Ok.archive, opened.answer, opened.kept, opened.done, opened.settled) c.answered-answer.ensures.untouched

pub returns-in-Ok-clause-commits : goal.returns-in-Ok-clause-commits
returns-in-Ok-clause-commits g c =
    let opened = c.in-Ok.ensures.opened in
    opened-commits (GoesOnBy (way_of c.args.command.now)) (FilesFor c.args.command.now) c.in-Ok.archive (g.D.Disk.content c.args.disk) (g.D.Disk.content c.open.new.disk) (g.D.Disk.content c.answered-answer.new.disk) c.answered-answer.result opened.answer opened.kept c.answered-answer.ensures.commits

pub returns-in-Ok-clause-crash_root : goal.returns-in-Ok-clause-crash_root
returns-in-Ok-clause-crash_root g c =
    let opened = c.in-Ok.ensures.opened in
    opened-begins g.D.Disk c.in-Ok.archive c.args.disk c.open.new.disk c.answered-answer.new.disk (g.met.D.Disk.reads_fit c.args.disk) opened.answer opened.kept opened.settled opened.crash_root c.answered-answer.ensures.crash_root

pub returns-in-Err-clause-crash_root : goal.returns-in-Err-clause-crash_root
returns-in-Err-clause-crash_root g c = none_begins g.D.Disk c.args.disk c.open.new.disk (opened-none g.D.Disk c.args.disk c.open.new.disk (Err c.in-Err.why) c.in-Err.ensures.opened.crash_root)

pub returns-in-Err-clause-files : goal.returns-in-Err-clause-files
returns-in-Err-clause-files g c = c.in-Err.ensures.refused

pub returns-in-Ok-clause-answer : goal.returns-in-Ok-clause-answer
returns-in-Ok-clause-answer g c = opened-some c.in-Ok.archive (g.D.Disk.content c.args.disk) c.in-Ok.ensures.opened.answer
