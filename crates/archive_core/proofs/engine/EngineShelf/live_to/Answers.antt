use Rattle.std.proofs.Common.{subst}
use Rattle.arch_model.specs.Archives.{live}
use Rattle.overview_index.specs.Listings.{IsGreatestTo}
use Rattle.overview_index.proofs.Messages.{greatest-live}
use Rattle.view_set.specs.Viewed.{Viewed}
use Rattle.archive_core.proofs.Engines.{views-inside}
use Rattle.archive_core.proofs.engine.EngineShelf.live_to.Goals as goal

pub returns : goal.returns
returns g c = λ a store. greatest-live a.config.form (live a.entries) c.args.n c.live_to.result (subst (λ (v : Viewed). IsGreatestTo v.rows c.args.n c.live_to.result) (views-inside g.D.Disk g.met.D.Disk.counts_now g.met.D.Disk.only_now g.met.D.Disk.reads_fit
    (record { disk = c.self.inside.disk; view = c.self.inside.archive; views = c.self.inside.views; stale = c.self.inside.stale }) c.args.self.now c.self.view_is a store) c.live_to.ensures)
