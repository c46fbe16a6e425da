use Rattle.root_slots.proofs.OneRoots.{none_begins}
use Rattle.std.proofs.Common.{Err, inl}
use Rattle.archive_cli.specs.DiskCommands.{LeavesConverted}
use Rattle.archive_cli.proofs.Committing.{opened-none}
use Rattle.archive_cli.proofs.OnDisk.{refused-cause, unopened-leaves, unopened-stands}
use Rattle.archive_cli.proofs.ConvertedDisk.{conversion-answer, conversion-begins, conversion-cause, conversion-commits, conversion-ends, conversion-files, conversion-kind, conversion-runs, conversion-stands, unopened-converts}
use Rattle.archive_cli.proofs.disk_commands.convert.Goals as goal

pub returns-in-Ok-clause-crash : goal.returns-in-Ok-clause-crash
returns-in-Ok-clause-crash g c = conversion-runs g.D.Disk g.met.D.Disk.counts_now g.met.D.Disk.reads_fit c.args.disk c.open.new.disk c.converted-outcome.new.disk c.in-Ok.counted c.in-Ok.ensures.opened c.converted-outcome.result c.converted-outcome.ensures c.law_of_collisions.ensures

pub returns-in-Ok-clause-crash_root : goal.returns-in-Ok-clause-crash_root
returns-in-Ok-clause-crash_root g c = conversion-begins g.D.Disk g.met.D.Disk.counts_now g.met.D.Disk.reads_fit c.args.disk c.open.new.disk c.converted-outcome.new.disk c.in-Ok.counted c.in-Ok.ensures.opened c.converted-outcome.result c.converted-outcome.ensures

pub returns-in-Ok-clause-stands : goal.returns-in-Ok-clause-stands
returns-in-Ok-clause-stands g c = λ s cache all. conversion-stands g.D.Disk g.met.D.Disk.counts_now g.met.D.Disk.reads_fit c.args.disk c.open.new.disk c.converted-outcome.new.disk c.in-Ok.counted c.in-Ok.ensures.opened c.converted-outcome.result c.converted-outcome.ensures c.law_of_collisions.ensures s cache all

pub returns-in-Ok-clause-done : goal.returns-in-Ok-clause-done
returns-in-Ok-clause-done g c = λ a cache reads. conversion-ends g.D.Disk g.met.D.Disk.counts_now g.met.D.Disk.reads_fit c.args.disk c.open.new.disk c.converted-outcome.new.disk c.in-Ok.counted c.in-Ok.ensures.opened c.converted-outcome.result c.converted-outcome.ensures a cache reads

pub returns-in-Ok-clause-answer : goal.returns-in-Ok-clause-answer
returns-in-Ok-clause-answer g c = conversion-answer g.D.Disk g.met.D.Disk.counts_now g.met.D.Disk.reads_fit c.args.disk c.open.new.disk c.converted-outcome.new.disk c.in-Ok.counted c.in-Ok.ensures.opened c.converted-outcome.result c.converted-outcome.ensures

pub returns-in-Ok-clause-files : goal.returns-in-Ok-clause-files
returns-in-Ok-clause-files g c = conversion-files g.D.Disk g.met.D.Disk.counts_now g.met.D.Disk.reads_fit c.args.disk c.open.new.disk c.converted-outcome.new.disk c.in-Ok.counted c.in-Ok.ensures.opened c.converted-outcome.result c.converted-outcome.ensures

pub returns-in-Ok-clause-commits : goal.returns-in-Ok-clause-commits
returns-in-Ok-clause-commits g c = conversion-commits g.D.Disk g.met.D.Disk.counts_now g.met.D.Disk.reads_fit c.args.disk c.open.new.disk c.converted-outcome.new.disk c.in-Ok.counted c.in-Ok.ensures.opened c.converted-outcome.result c.converted-outcome.ensures

pub returns-in-Ok-clause-kind : goal.returns-in-Ok-clause-kind
returns-in-Ok-clause-kind g c = conversion-kind g.D.Disk g.met.D.Disk.counts_now g.met.D.Disk.reads_fit c.args.disk c.open.new.disk c.converted-outcome.new.disk c.in-Ok.counted c.in-Ok.ensures.opened c.converted-outcome.result c.converted-outcome.ensures

pub returns-in-Ok-clause-cause : goal.returns-in-Ok-clause-cause
returns-in-Ok-clause-cause g c = conversion-cause g.D.Disk g.met.D.Disk.counts_now g.met.D.Disk.reads_fit c.args.disk c.open.new.disk c.converted-outcome.new.disk c.in-Ok.counted c.in-Ok.ensures.opened c.converted-outcome.result c.converted-outcome.ensures

pub returns-in-Err-clause-crash : goal.returns-in-Err-clause-crash
returns-in-Err-clause-crash g c = unopened-leaves g.D.Disk g.met.D.Disk.counts_now g.met.D.Disk.reads_fit c.args.disk c.open.new.disk LeavesConverted (λ cache a image one. inl one) c.in-Err.ensures.opened.before

pub returns-in-Err-clause-crash_root : goal.returns-in-Err-clause-crash_root
returns-in-Err-clause-crash_root g c = none_begins g.D.Disk c.args.disk c.open.new.disk (opened-none g.D.Disk c.args.disk c.open.new.disk (Err c.in-Err.why) c.in-Err.ensures.opened.crash_root)

pub returns-in-Err-clause-stands : goal.returns-in-Err-clause-stands
returns-in-Err-clause-stands g c = λ s cache all. unopened-stands g.D.Disk g.met.D.Disk.counts_now g.met.D.Disk.reads_fit s cache c.args.disk c.open.new.disk c.in-Err.why all c.in-Err.ensures.opened.before c.in-Err.ensures.opened.well c.in-Err.ensures.opened.first

pub returns-in-Err-clause-done : goal.returns-in-Err-clause-done
returns-in-Err-clause-done g c = λ a cache reads. unopened-converts cache a c.in-Err.why (g.D.Disk.content c.args.disk) (g.D.Disk.content c.open.new.disk) reads (c.in-Err.ensures.opened.well a cache reads) c.in-Err.ensures.refused

pub returns-in-Err-clause-files : goal.returns-in-Err-clause-files
returns-in-Err-clause-files g c = c.in-Err.ensures.refused

pub returns-in-Err-clause-cause : goal.returns-in-Err-clause-cause
returns-in-Err-clause-cause g c = refused-cause (g.D.Disk.faults c.args.disk) (g.D.Disk.faults c.open.new.disk) c.in-Err.why c.in-Err.ensures.opened.cause
