use Rattle.std.proofs.Common.{◌≡◌, ◌∙◌, ap}
use Rattle.std.proofs.lemmas.Result.{IfOk-weaker}
use Rattle.arch_model.specs.Archives.{live}
use Rattle.arch_model.specs.Searching.{search}
use Rattle.view_set.specs.Viewed.{searched}
use Rattle.view_set.proofs.Searching.{search-is}
use Rattle.archive_core.proofs.Engines.{views-inside, kept-inside}
use Rattle.archive_core.proofs.engine.EngineShelf.search.Goals as goal

pub returns : goal.returns
returns g c = λ a store.
    let views_are = views-inside g.D.Disk g.met.D.Disk.counts_now g.met.D.Disk.only_now g.met.D.Disk.reads_fit
    (record { disk = c.self.inside.disk; view = c.self.inside.archive; views = c.self.inside.views; stale = c.self.inside.stale }) c.args.self.now c.self.view_is a store in
    let valid = (kept-inside g.D.Disk g.met.D.Disk.counts_now g.met.D.Disk.only_now g.met.D.Disk.reads_fit
    (record { disk = c.self.inside.disk; view = c.self.inside.archive; views = c.self.inside.views; stale = c.self.inside.stale }) c.args.self.now c.self.view_is a store).valid in
    IfOk-weaker c.search.result (λ ns. ns ≡ searched c.args.query.now c.self.inside.views) (λ ns. ns ≡ search c.args.query.now (live a.entries))
    (λ ns is. is ∙ ap (searched c.args.query.now) views_are ∙ search-is a.config.form c.args.query.now a valid) c.search.ensures
