use Rattle.std.proofs.Common.{[]}
use Rattle.arch_model.specs.Archives.{empty_archive}
use Rattle.arch_model.specs.Validity.{IsArchive}
use Rattle.archive_cli.proofs.LoadLines.{load-valid, load-configured}
use Rattle.archive_cli.proofs.loading.counts_of_load.Goals as goal

pub make-requires : goal.make-requires
make-requires c = rw c.config.ensures (record { config = load-configured })

pub returns-in-Ok : goal.returns-in-Ok
returns-in-Ok c =
    let valid : IsArchive (empty_archive c.config.result) = rw c.config.ensures load-valid in
    rw c.config.ensures at (c.counts_over.ensures (empty_archive c.config.result) valid ([], c.in-Ok.ensures.made.done, c.in-Ok.ensures.rows, c.in-Ok.ensures.made.settled))
