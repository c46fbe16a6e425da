use Rattle.std.proofs.Common.{◌-◌, inl}
use Rattle.disk_model.specs.Moments.{started}
use Rattle.archive_core.specs.Commands.{FilesFor, way_of}
use Rattle.archive_core.specs.Walks.{looks-same}
use Rattle.archive_core.proofs.Engines.{stands_for}
use Rattle.archive_cli.specs.DiskCommands.{LeavesEither, taking}
use Rattle.archive_cli.proofs.Committing.{commits-done, starved-answer, in-still}
use Rattle.archive_cli.proofs.disk_commands.answered.Goals as goal

pub returns-then-not-has_next_root-clause-crash : goal.returns-then-not-has_next_root-clause-crash
returns-then-not-has_next_root-clause-crash g c = λ a cache store. started g.D.Disk c.args.disk.now (LeavesEither (way_of c.args.command.now) (taking c.args.command.now c.args.moment) cache a)
    (λ image left. inl (stands_for c.args.archive cache a (g.D.Disk.content c.args.disk.now) image store (g.met.D.Disk.only_now c.args.disk.now image left)))

pub returns-then-not-has_next_root-clause-done : goal.returns-then-not-has_next_root-clause-done
returns-then-not-has_next_root-clause-done g c = λ a cache store. (c.args.archive, store)

pub returns-clause-crash : goal.returns-clause-crash
returns-clause-crash g c = λ a cache store. c.command.ensures.taken.crash a cache store (c.has_next_root.ensures.0 c.if-not-has_next_root.false)

pub returns-clause-done : goal.returns-clause-done
returns-clause-done g c = λ a cache store. (c.command.new.self, c.command.ensures.taken.done a cache store (c.has_next_root.ensures.0 c.if-not-has_next_root.false))

pub returns-then-not-has_next_root-clause-untouched : goal.returns-then-not-has_next_root-clause-untouched
returns-then-not-has_next_root-clause-untouched g c = looks-same g.D.Disk g.met.D.Disk.only_now c.args.disk.now

pub returns-then-not-has_next_root-clause-crash_root : goal.returns-then-not-has_next_root-clause-crash_root
returns-then-not-has_next_root-clause-crash_root g c = in-still g.D.Disk (1 - c.args.archive.slot) g.met.D.Disk.only_now c.args.disk.now

pub returns-clause-commits : goal.returns-clause-commits
returns-clause-commits g c =
    let taken = c.command.ensures.taken in
    commits-done (way_of c.args.command.now) (FilesFor c.args.command.now) c.args.archive c.command.new.self (g.D.Disk.content c.args.disk.now) (g.D.Disk.content c.command.new.disk) c.command.result taken.files taken.goes_on taken.slot taken.rooted taken.settled

pub returns-then-not-has_next_root-clause-for_command : goal.returns-then-not-has_next_root-clause-for_command
returns-then-not-has_next_root-clause-for_command g c = starved-answer c.args.command.now
