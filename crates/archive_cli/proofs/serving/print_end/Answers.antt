use Rattle.archive_cli.proofs.Printed.{printed-said}
use Rattle.archive_cli.specs.declared.status.Status.TheVariants as exit
use Rattle.std.proofs.Common.{[], Ok, refl}
use Rattle.edge_io.proofs.Wording.{plus-none}
use Rattle.archive_cli.proofs.serving.print_end.Goals as goal

pub returns-in-Stopped-clause-printed : goal.returns-in-Stopped-clause-printed
returns-in-Stopped-clause-printed g c = rw c.in-Stopped.is (printed-said _ _ _ _ [] exit.Done _ (Ok tt) (refl, plus-none _) refl)

pub returns-in-Spent-clause-printed : goal.returns-in-Spent-clause-printed
returns-in-Spent-clause-printed g c = rw c.in-Spent.is (printed-said _ _ _ _ [] exit.Spent _ (Ok tt) (refl, plus-none _) refl)

pub returns-in-HostFault-clause-printed : goal.returns-in-HostFault-clause-printed
returns-in-HostFault-clause-printed g c = rw c.in-HostFault.is (printed-said _ _ _ _ [] exit.Edges _ (Ok tt) (refl, plus-none _) refl)
