use Rattle.std.proofs.Common.{◌∙◌}
use Rattle.archive_core.proofs.Engines.{kept-inside}
use Rattle.archive_core.proofs.engine.EngineShelf.config.Goals as goal

pub returns : goal.returns
returns g c = λ a store. c.config.ensures ∙ (kept-inside g.D.Disk g.met.D.Disk.counts_now g.met.D.Disk.only_now g.met.D.Disk.reads_fit
    (record { disk = c.self.inside.disk; view = c.self.inside.archive; views = c.self.inside.views; stale = c.self.inside.stale }) c.args.self.now c.self.view_is a store).names.config
