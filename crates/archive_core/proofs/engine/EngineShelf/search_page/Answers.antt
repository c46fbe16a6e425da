use Rattle.archive_core.specs.Engines.{Owning}
use Rattle.archive_core.proofs.Engines.{views-inside, kept-inside}
use Rattle.archive_core.proofs.engine.EngineShelf.search_page.Goals as goal

pub returns : goal.returns
returns g c = λ a store.
    let inside : Owning g.row.D.Denot = record { disk = c.self.inside.disk; view = c.self.inside.archive; views = c.self.inside.views; stale = c.self.inside.stale } in
    let views_are = views-inside g.D.Disk g.met.D.Disk.counts_now g.met.D.Disk.only_now g.met.D.Disk.reads_fit inside c.args.self.now c.self.view_is a store in
    let valid = (kept-inside g.D.Disk g.met.D.Disk.counts_now g.met.D.Disk.only_now g.met.D.Disk.reads_fit inside c.args.self.now c.self.view_is a store).valid in
    c.search_page.ensures a.config.form a.entries valid.order views_are
