use Rattle.archive_cli.proofs.OnDisk.{made-makes, made-cause, unmade-makes, unmade-cause}
use Rattle.archive_cli.proofs.disk_commands.make.Goals as goal

pub returns-in-Ok-clause-made : goal.returns-in-Ok-clause-made
returns-in-Ok-clause-made g c = rw c.into_disk.ensures
    (made-makes c.args.config.now c.copy.result c.in-Ok.engine.view (g.D.Disk.content c.args.disk) (g.D.Disk.content c.in-Ok.engine.disk) c.copy.ensures c.in-Ok.ensures.made.answer c.in-Ok.ensures.made.done c.in-Ok.ensures.made.rooted c.in-Ok.ensures.made.settled)

pub returns-in-Ok-clause-cause : goal.returns-in-Ok-clause-cause
returns-in-Ok-clause-cause g c = rw c.into_disk.ensures
    (made-cause (g.D.Disk.faults c.args.disk) (g.D.Disk.faults c.in-Ok.engine.disk) c.copy.result (c.in-Ok.ensures.made.cause.kept (λ fault. absurd (cc fault))))

pub returns-in-Err-clause-made : goal.returns-in-Err-clause-made
returns-in-Err-clause-made g c = unmade-makes c.args.config.now c.in-Err.field-0.why c.outcome_of.result (g.D.Disk.content c.args.disk) (g.D.Disk.content c.in-Err.field-0.disk) c.outcome_of.ensures c.in-Err.ensures.made.answer c.in-Err.ensures.made.refused

pub returns-in-Err-clause-cause : goal.returns-in-Err-clause-cause
returns-in-Err-clause-cause g c = unmade-cause (g.D.Disk.faults c.args.disk) (g.D.Disk.faults c.in-Err.field-0.disk) c.in-Err.field-0.why c.outcome_of.result c.outcome_of.ensures c.in-Err.ensures.made.cause
