use Rattle.std.proofs.Common.{inl, refl, subst}
use Rattle.disk_model.specs.Moments.{LeavesOnly, started, weaker}
use Rattle.arch_base.specs.declared.config.Config.{Config}
use Rattle.epoch_store.specs.First.{MakingLeaves}
use Rattle.archive_cli.specs.Program.{InitActs, InitLeaves}
use Rattle.archive_cli.proofs.Leaving.{init-first}
use Rattle.archive_cli.proofs.Printed.{outcome-due}
use Rattle.archive_cli.proofs.program.init.Goals as goal

pub returns-in-Err-clause-crash : goal.returns-in-Err-clause-crash
returns-in-Err-clause-crash g c =
    let disk = c.args.disk in
    let coming = g.C.Clock.coming c.args.clock.now in
    started g.D.Disk disk (InitLeaves c.args.config coming (g.D.Disk.content disk)) (λ image left. init-first c.args.config coming (g.D.Disk.content disk) image (g.met.D.Disk.only_now disk image left))

pub returns-clause-crash : goal.returns-clause-crash
returns-clause-crash g c =
    let disk = c.args.disk in
    let k0 = g.D.Disk.content disk in
    let coming = g.C.Clock.coming c.args.clock.now in
    let made = subst (λ (config : Config). LeavesOnly g.D.Disk disk c.make-outcome.result.1 (MakingLeaves config k0)) c.config_at-config.ensures.at c.make-outcome.ensures.crash in
    weaker g.D.Disk disk c.make-outcome.result.1 _ (InitLeaves c.args.config coming k0) made (λ image leaves. (c.in-Ok.moment, c.in-Ok.ensures.first, leaves))

pub returns-clause-ends : goal.returns-clause-ends
returns-clause-ends g c =
    inl (outcome-due (InitActs c.args.config) _ _ _ c.make-outcome.result.0 (record { moment = c.in-Ok.moment; first = c.in-Ok.ensures.first; coming = c.in-Ok.ensures.rest; acts = rw c.config_at-config.ensures.at at c.make-outcome.ensures.made; fault = c.make-outcome.ensures.cause.failed; input_kept = refl; clock_kept = c.in-Ok.ensures.cause.kept; disk_kept = c.make-outcome.ensures.cause.kept }) c.print_outcome.ensures.printed)
