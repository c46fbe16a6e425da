use Rattle.std.proofs.Common.{◌∙◌, ap, min, ℕ}
use Rattle.arch_model.specs.Archives.{live}
use Rattle.overview_index.specs.Listings.{live_between}
use Rattle.overview_index.proofs.Messages.{crash_between-live}
use Rattle.view_set.specs.Viewed.{Viewed}
use Rattle.archive_core.proofs.Counting.{counted}
use Rattle.archive_core.proofs.Engines.{views-inside, kept-inside}
use Rattle.archive_core.proofs.engine.Engine.message_count.Goals as goal

pub returns : goal.returns
returns g c = λ a store.
    let views_are = views-inside g.D.Disk g.met.D.Disk.counts_now g.met.D.Disk.only_now g.met.D.Disk.reads_fit
    (record { disk = c.self.inside.disk; view = c.self.inside.archive; views = c.self.inside.views; stale = c.self.inside.stale }) c.args.self.now c.self.view_is a store in
    let crash_between = c.live_count.ensures ∙ ap (λ (v : Viewed). live_between v.rows 0 4294967295) views_are ∙ crash_between-live a.config.form (live a.entries) 0 4294967295 in
    c.min.ensures ∙ ap (λ (n : ℕ). min n c.from.result) crash_between ∙ ap (min _) c.from.ensures ∙ counted a (kept-inside g.D.Disk g.met.D.Disk.counts_now g.met.D.Disk.only_now g.met.D.Disk.reads_fit
    (record { disk = c.self.inside.disk; view = c.self.inside.archive; views = c.self.inside.views; stale = c.self.inside.stale }) c.args.self.now c.self.view_is a store).valid
