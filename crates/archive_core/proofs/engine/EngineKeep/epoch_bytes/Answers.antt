use Rattle.archive_core.proofs.Engines.{held-inside, stays-from, cause-from, once-from, quiet-other}
use Rattle.archive_core.proofs.engine.EngineKeep.epoch_bytes.Goals as goal

pub returns-clause-bytes : goal.returns-clause-bytes
returns-clause-bytes g c = λ a store.
    let own = held-inside g.D.Disk g.met.D.Disk.counts_now g.met.D.Disk.only_now g.met.D.Disk.reads_fit
    (record { disk = c.self.inside.disk; view = c.self.inside.archive; views = c.self.inside.views; stale = c.self.inside.stale }) c.args.self.now c.self.view_is a store in
    c.epoch_bytes.ensures.bytes a own.0 own.1

pub returns-clause-shelf : goal.returns-clause-shelf
returns-clause-shelf g c = stays-from g.D.Disk g.met.D.Disk.counts_now g.met.D.Disk.only_now g.met.D.Disk.reads_fit
    (record { disk = c.self.inside.disk; view = c.self.inside.archive; views = c.self.inside.views; stale = c.self.inside.stale }) c.args.self.now c.self.view_is
    g.D.Disk.faults c.epoch_bytes.new.disk c.requires.ready c.epoch_bytes.ensures.same c.epoch_bytes.ensures.crash c.epoch_bytes.ensures.cause.later

pub returns-clause-cause : goal.returns-clause-cause
returns-clause-cause g c = cause-from g.D.Disk g.met.D.Disk.counts_now g.met.D.Disk.only_now g.met.D.Disk.reads_fit
    (record { disk = c.self.inside.disk; view = c.self.inside.archive; views = c.self.inside.views; stale = c.self.inside.stale }) c.args.self.now c.self.view_is
    g.D.Disk.faults c.epoch_bytes.new.disk c.epoch_bytes.result c.epoch_bytes.ensures.cause (quiet-other c.epoch_bytes.result c.epoch_bytes.ensures.undamaged)

pub returns-clause-reads : goal.returns-clause-reads
returns-clause-reads g c = once-from g.D.Disk g.met.D.Disk.counts_now g.met.D.Disk.only_now g.met.D.Disk.reads_fit
    (record { disk = c.self.inside.disk; view = c.self.inside.archive; views = c.self.inside.views; stale = c.self.inside.stale }) c.args.self.now c.self.view_is
    g.D.Disk.reads c.epoch_bytes.new.disk c.epoch_bytes.ensures.fewest c.epoch_bytes.ensures.count
