use Rattle.archive_core.proofs.Engines.{held-inside, stays-from, cause-from, once-from, blob-ids-from}
use Rattle.archive_core.proofs.engine.EngineShelf.blob.Goals as goal

pub returns-clause-blob : goal.returns-clause-blob
returns-clause-blob g c = λ a store.
    let own = held-inside g.D.Disk g.met.D.Disk.counts_now g.met.D.Disk.only_now g.met.D.Disk.reads_fit
    (record { disk = c.self.inside.disk; view = c.self.inside.archive; views = c.self.inside.views; stale = c.self.inside.stale }) c.args.self.now c.self.view_is a store in
    c.blob.ensures.blob a own.0 own.1

pub returns-clause-shelf : goal.returns-clause-shelf
returns-clause-shelf g c = stays-from g.D.Disk g.met.D.Disk.counts_now g.met.D.Disk.only_now g.met.D.Disk.reads_fit
    (record { disk = c.self.inside.disk; view = c.self.inside.archive; views = c.self.inside.views; stale = c.self.inside.stale }) c.args.self.now c.self.view_is
    g.D.Disk.faults c.blob.new.disk c.requires.ready c.blob.ensures.same c.blob.ensures.crash c.blob.ensures.cause.later

pub returns-clause-cause : goal.returns-clause-cause
returns-clause-cause g c = cause-from g.D.Disk g.met.D.Disk.counts_now g.met.D.Disk.only_now g.met.D.Disk.reads_fit
    (record { disk = c.self.inside.disk; view = c.self.inside.archive; views = c.self.inside.views; stale = c.self.inside.stale }) c.args.self.now c.self.view_is
    g.D.Disk.faults c.blob.new.disk c.blob.result c.blob.ensures.cause c.blob.ensures.other

pub returns-clause-reads : goal.returns-clause-reads
returns-clause-reads g c = once-from g.D.Disk g.met.D.Disk.counts_now g.met.D.Disk.only_now g.met.D.Disk.reads_fit
    (record { disk = c.self.inside.disk; view = c.self.inside.archive; views = c.self.inside.views; stale = c.self.inside.stale }) c.args.self.now c.self.view_is
    g.D.Disk.reads c.blob.new.disk c.blob.ensures.fewest c.blob.ensures.count

pub returns-clause-ids : goal.returns-clause-ids
returns-clause-ids g c = blob-ids-from g.D.Disk g.met.D.Disk.counts_now g.met.D.Disk.only_now g.met.D.Disk.reads_fit
    (record { disk = c.self.inside.disk; view = c.self.inside.archive; views = c.self.inside.views; stale = c.self.inside.stale }) c.args.self.now c.self.view_is
    c.args.id.now c.args.into.now c.blob.new.into c.blob.result c.blob.ensures.read
