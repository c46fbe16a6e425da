use Rattle.std.proofs.Common.{◌∙◌, ap}
use Rattle.arch_model.specs.Archives.{live}
use Rattle.overview_index.specs.Listings.{number_of}
use Rattle.overview_index.proofs.Messages.{number-is}
use Rattle.view_set.specs.Viewed.{Viewed}
use Rattle.archive_core.proofs.Engines.{views-inside, kept-inside}
use Rattle.archive_core.proofs.KeepingUp.{live-ids}
use Rattle.archive_core.proofs.engine.EngineShelf.by_id.Goals as goal

pub returns : goal.returns
returns g c = λ a store. c.by_id.ensures ∙ ap (λ (v : Viewed). number_of v.rows c.args.id.now) (views-inside g.D.Disk g.met.D.Disk.counts_now g.met.D.Disk.only_now g.met.D.Disk.reads_fit
    (record { disk = c.self.inside.disk; view = c.self.inside.archive; views = c.self.inside.views; stale = c.self.inside.stale }) c.args.self.now c.self.view_is a store) ∙ number-is a.config.form (live a.entries) c.args.id.now (live-ids a (kept-inside g.D.Disk g.met.D.Disk.counts_now g.met.D.Disk.only_now g.met.D.Disk.reads_fit
    (record { disk = c.self.inside.disk; view = c.self.inside.archive; views = c.self.inside.views; stale = c.self.inside.stale }) c.args.self.now c.self.view_is a store).valid)
