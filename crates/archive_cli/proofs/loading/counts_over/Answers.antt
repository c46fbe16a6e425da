use Rattle.arch_model.specs.KeeperRecord.{keeper}
use Rattle.arch_model.proofs.Keepers.{fits-held}
use Rattle.archive_cli.proofs.loading.counts_over.Goals as goal

pub returns-in-Ok : goal.returns-in-Ok
returns-in-Ok g c = λ a valid held.
    let fits = fits-held (keeper g.K.Shelf g.K.Keep) g.met.K.Keep.holds_files_are g.met.K.Keep.holds_left c.args.keep a held in
    rw c.in-Ok.is at c.load.ensures.counts a valid fits
