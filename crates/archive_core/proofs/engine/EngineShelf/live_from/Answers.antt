use Rattle.std.proofs.Common.{subst}
use Rattle.arch_model.specs.Archives.{live}
use Rattle.overview_index.specs.Listings.{IsLeastFrom}
use Rattle.overview_index.proofs.Messages.{least-live}
use Rattle.view_set.specs.Viewed.{Viewed}
use Rattle.archive_core.proofs.Engines.{views-inside}
use Rattle.archive_core.proofs.engine.EngineShelf.live_from.Goals as goal

pub returns : goal.returns
returns g c = λ a store. least-live a.config.form (live a.entries) c.args.n c.live_from.result (subst (λ (v : Viewed). IsLeastFrom v.rows c.args.n c.live_from.result) (views-inside g.D.Disk g.met.D.Disk.counts_now g.met.D.Disk.only_now g.met.D.Disk.reads_fit
    (record { disk = c.self.inside.disk; view = c.self.inside.archive; views = c.self.inside.views; stale = c.self.inside.stale }) c.args.self.now c.self.view_is a store) c.live_from.ensures)
