use Rattle.std.proofs.Common.{inl, refl}
use Rattle.archive_core.specs.Commands.{FilesFor, IsForCommand, way_of}
use Rattle.archive_cli.specs.DiskCommands.{taking}
use Rattle.archive_cli.specs.Program.{CommandActs}
use Rattle.archive_cli.proofs.Committing.{still-one}
use Rattle.archive_cli.proofs.Leaving.{command-first}
use Rattle.archive_cli.proofs.Printed.{outcome-due}
use Rattle.archive_cli.proofs.program.carry_out.Goals as goal

pub returns-in-Err-clause-crash : goal.returns-in-Err-clause-crash
returns-in-Err-clause-crash g c = command-first g.D.Disk g.met.D.Disk.only_now (g.C.Clock.coming c.args.clock.now) (way_of c.args.command.now) (taking c.args.command.now) c.args.disk

pub returns-clause-crash : goal.returns-clause-crash
returns-clause-crash g c = (c.in-Ok.moment, c.in-Ok.ensures.first, c.take-outcome.ensures.crash)

pub returns-clause-ends : goal.returns-clause-ends
returns-clause-ends g c =
    inl (outcome-due (CommandActs (way_of c.args.command.now) (FilesFor c.args.command.now) (IsForCommand c.args.command.now) (taking c.args.command.now)) _ _ _ c.take-outcome.result.0 (record {
      moment = c.in-Ok.moment;
      first = c.in-Ok.ensures.first;
      coming = c.in-Ok.ensures.rest;
      acts = record {
        kind = c.take-outcome.ensures.kind;
        done = c.take-outcome.ensures.done;
        stands = c.take-outcome.ensures.stands;
        answer = c.take-outcome.ensures.answer;
        files = c.take-outcome.ensures.files;
        commits = c.take-outcome.ensures.commits;
      };
      fault = c.take-outcome.ensures.cause.failed;
      input_kept = refl;
      clock_kept = c.in-Ok.ensures.cause.kept;
      disk_kept = c.take-outcome.ensures.cause.kept;
    }) c.print_outcome.ensures.printed)

pub returns-in-Err-clause-crash_root : goal.returns-in-Err-clause-crash_root
returns-in-Err-clause-crash_root g c = still-one g.D.Disk g.met.D.Disk.only_now c.args.disk

pub returns-clause-crash_root : goal.returns-clause-crash_root
returns-clause-crash_root g c = c.take-outcome.ensures.crash_root
