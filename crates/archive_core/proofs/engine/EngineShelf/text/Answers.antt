use Rattle.std.proofs.Common.{◌≡◌, ◌∙◌, sym, refl}
use Rattle.std.proofs.lemmas.Bool.{false≢true}
use Rattle.store_finding.specs.declared.entries.StoredEntry.{StoredEntry}
use Rattle.archive_core.proofs.ByNumber.{tells-other, kept-appends}
use Rattle.arch_model.proofs.Shelving.{appends-none}
use Rattle.archive_core.proofs.Engines.{kept-inside, held-inside, stays-still, stays-from, cause-from, once-from}
use Rattle.archive_core.proofs.engine.EngineShelf.text.Goals as goal

pub returns-then-not-has_text-clause-text : goal.returns-then-not-has_text-clause-text
returns-then-not-has_text-clause-text g c = λ a store.
    let without = c.has_text.ensures.text a (kept-inside g.D.Disk g.met.D.Disk.counts_now g.met.D.Disk.only_now g.met.D.Disk.reads_fit
    (record { disk = c.self.inside.disk; view = c.self.inside.archive; views = c.self.inside.views; stale = c.self.inside.stale }) c.args.self.now c.self.view_is a store) ∙ c.if-not-has_text.true in
    absurd (false≢true (sym without ∙ c.requires.live a store))

pub returns-then-not-has_text-clause-shelf : goal.returns-then-not-has_text-clause-shelf
returns-then-not-has_text-clause-shelf g c = stays-still g.D.Disk g.met.D.Disk.counts_now g.met.D.Disk.only_now g.met.D.Disk.reads_fit g.D.Disk.faults c.args.self.now c.requires.ready

pub returns-clause-text : goal.returns-clause-text
returns-clause-text g c = λ a store.
    let own = held-inside g.D.Disk g.met.D.Disk.counts_now g.met.D.Disk.only_now g.met.D.Disk.reads_fit
    (record { disk = c.self.inside.disk; view = c.self.inside.archive; views = c.self.inside.views; stale = c.self.inside.stale }) c.args.self.now c.self.view_is a store in
    c.text.ensures.text a own.0 own.1

pub returns-clause-shelf : goal.returns-clause-shelf
returns-clause-shelf g c = stays-from g.D.Disk g.met.D.Disk.counts_now g.met.D.Disk.only_now g.met.D.Disk.reads_fit
    (record { disk = c.self.inside.disk; view = c.self.inside.archive; views = c.self.inside.views; stale = c.self.inside.stale }) c.args.self.now c.self.view_is
    g.D.Disk.faults c.text.new.disk c.requires.ready c.text.ensures.same c.text.ensures.crash c.text.ensures.cause.later

pub returns-clause-cause : goal.returns-clause-cause
returns-clause-cause g c = cause-from g.D.Disk g.met.D.Disk.counts_now g.met.D.Disk.only_now g.met.D.Disk.reads_fit
    (record { disk = c.self.inside.disk; view = c.self.inside.archive; views = c.self.inside.views; stale = c.self.inside.stale }) c.args.self.now c.self.view_is
    g.D.Disk.faults c.text.new.disk c.text.result c.text.ensures.cause (tells-other (λ (e : StoredEntry). e.number ≡ c.args.n) c.self.inside.archive (g.D.Disk.content c.self.inside.disk) c.args.into.now c.text.new.into c.text.result c.text.ensures.kept)

pub returns-clause-reads : goal.returns-clause-reads
returns-clause-reads g c = once-from g.D.Disk g.met.D.Disk.counts_now g.met.D.Disk.only_now g.met.D.Disk.reads_fit
    (record { disk = c.self.inside.disk; view = c.self.inside.archive; views = c.self.inside.views; stale = c.self.inside.stale }) c.args.self.now c.self.view_is
    g.D.Disk.reads c.text.new.disk c.text.ensures.fewest c.text.ensures.count

pub returns-then-not-has_text-clause-appends : goal.returns-then-not-has_text-clause-appends
returns-then-not-has_text-clause-appends g c = appends-none c.args.into.now c.args.into.now refl

pub returns-clause-appends : goal.returns-clause-appends
returns-clause-appends g c = kept-appends (λ (e : StoredEntry). e.number ≡ c.args.n) c.self.inside.archive (g.D.Disk.content c.self.inside.disk) c.args.into.now c.text.new.into c.text.result c.text.ensures.kept
