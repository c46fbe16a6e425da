use Rattle.std.proofs.Common.{◌∙◌, ap}
use Rattle.arch_model.specs.Archives.{live}
use Rattle.overview_index.specs.Listings.{live_between}
use Rattle.overview_index.proofs.Messages.{crash_between-live}
use Rattle.view_set.specs.Viewed.{Viewed}
use Rattle.archive_core.proofs.Engines.{views-inside}
use Rattle.archive_core.proofs.engine.EngineShelf.live_count.Goals as goal

pub returns : goal.returns
returns g c = λ a store. c.live_count.ensures ∙ ap (λ (v : Viewed). live_between v.rows c.args.low c.args.high) (views-inside g.D.Disk g.met.D.Disk.counts_now g.met.D.Disk.only_now g.met.D.Disk.reads_fit
    (record { disk = c.self.inside.disk; view = c.self.inside.archive; views = c.self.inside.views; stale = c.self.inside.stale }) c.args.self.now c.self.view_is a store) ∙ crash_between-live a.config.form (live a.entries) c.args.low c.args.high
