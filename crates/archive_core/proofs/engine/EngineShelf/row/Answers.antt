use Rattle.std.proofs.Common.{◌∙◌, ap}
use Rattle.arch_model.specs.Archives.{live}
use Rattle.overview_index.specs.Listings.{row_in}
use Rattle.overview_index.proofs.Messages.{row-is}
use Rattle.view_set.specs.Viewed.{Viewed}
use Rattle.archive_core.proofs.Engines.{views-inside}
use Rattle.archive_core.proofs.engine.EngineShelf.row.Goals as goal

pub returns : goal.returns
returns g c = λ a store. c.get.ensures ∙ ap (λ (v : Viewed). row_in v.rows c.args.n) (views-inside g.D.Disk g.met.D.Disk.counts_now g.met.D.Disk.only_now g.met.D.Disk.reads_fit
    (record { disk = c.self.inside.disk; view = c.self.inside.archive; views = c.self.inside.views; stale = c.self.inside.stale }) c.args.self.now c.self.view_is a store) ∙ row-is a.config.form (live a.entries) c.args.n
