use Rattle.std.proofs.Common.{◌∙◌, false, ap, not, sym, Ok, Err}
use Rattle.std.proofs.lemmas.Bool.{false≢true}
use Rattle.archive_core.specs.HandedBack.{view_opened}
use Rattle.archive_core.proofs.RootBytes.{opens-between}
use Rattle.archive_core.proofs.Engines.{still-ready, still-stale, opens-from, kindly-from, ready-at, opened-from, unopened-from, passes-from, opening-why-from, opened-cause-from}
use Rattle.archive_core.proofs.engine.EngineKeep.fresh.Goals as goal

pub returns-then-not-self-clause-found : goal.returns-then-not-self-clause-found
returns-then-not-self-clause-found g c = λ s fits. ready-at g.D.Disk g.met.D.Disk.counts_now g.met.D.Disk.only_now g.met.D.Disk.reads_fit c.args.self.now s
    (still-ready g.D.Disk g.met.D.Disk.counts_now g.met.D.Disk.only_now g.met.D.Disk.reads_fit
    (record { disk = c.self.inside.disk; view = c.self.inside.archive; views = c.self.inside.views; stale = c.self.inside.stale }) c.args.self.now c.self.view_is c.if-not-self.true) fits

pub returns-then-not-self-clause-crash : goal.returns-then-not-self-clause-crash
returns-then-not-self-clause-crash g c = λ s fits start may has left. left

pub returns-then-not-self-clause-ready : goal.returns-then-not-self-clause-ready
returns-then-not-self-clause-ready g c = still-ready g.D.Disk g.met.D.Disk.counts_now g.met.D.Disk.only_now g.met.D.Disk.reads_fit
    (record { disk = c.self.inside.disk; view = c.self.inside.archive; views = c.self.inside.views; stale = c.self.inside.stale }) c.args.self.now c.self.view_is c.if-not-self.true

pub returns-in-Ok-clause-nothing : goal.returns-in-Ok-clause-nothing
returns-in-Ok-clause-nothing g c = λ ready. absurd (still-stale g.D.Disk g.met.D.Disk.counts_now g.met.D.Disk.only_now g.met.D.Disk.reads_fit
    (record { disk = c.self.inside.disk; view = c.self.inside.archive; views = c.self.inside.views; stale = c.self.inside.stale }) c.args.self.now c.self.view_is c.if-not-self.false ready)

pub returns-in-Ok-clause-found : goal.returns-in-Ok-clause-found
returns-in-Ok-clause-found g c = opened-from g.D.Disk g.met.D.Disk.counts_now g.met.D.Disk.only_now g.met.D.Disk.reads_fit
    (record { disk = c.self.inside.disk; view = c.self.inside.archive; views = c.self.inside.views; stale = c.self.inside.stale }) c.args.self.now c.self.view_is c.law_of_recovery.ensures.some_one
    (record { disk = c.open.new.disk; view = c.in-Ok.field-0.archive; views = c.in-Ok.field-0.views; stale = false }) (c.open.ensures.opened.before, opens-between g.D.Disk c.self.inside.disk c.open.new.disk (view_opened c.open.result) c.open.ensures.opened.crash_root) (λ a cache reads. (c.in-Ok.ensures.opened.done a cache reads, c.in-Ok.ensures.rows a cache reads)) c.in-Ok.ensures.opened.settled
    (c.in-Ok.ensures.opened.answer, c.in-Ok.ensures.opened.kept)

pub returns-in-Ok-clause-crash : goal.returns-in-Ok-clause-crash
returns-in-Ok-clause-crash g c = passes-from g.D.Disk g.met.D.Disk.counts_now g.met.D.Disk.only_now g.met.D.Disk.reads_fit
    (record { disk = c.self.inside.disk; view = c.self.inside.archive; views = c.self.inside.views; stale = c.self.inside.stale }) c.args.self.now c.self.view_is c.law_of_recovery.ensures.some_one
    (record { disk = c.open.new.disk; view = c.in-Ok.field-0.archive; views = c.in-Ok.field-0.views; stale = false }) (c.open.ensures.opened.before, opens-between g.D.Disk c.self.inside.disk c.open.new.disk (view_opened c.open.result) c.open.ensures.opened.crash_root)

pub returns-in-Ok-clause-cause : goal.returns-in-Ok-clause-cause
returns-in-Ok-clause-cause g c = opened-cause-from g.D.Disk g.met.D.Disk.counts_now g.met.D.Disk.only_now g.met.D.Disk.reads_fit
    (record { disk = c.self.inside.disk; view = c.self.inside.archive; views = c.self.inside.views; stale = c.self.inside.stale }) c.args.self.now c.self.view_is
    g.D.Disk.faults c.open.new.disk c.in-Ok.field-0.archive (view_opened c.open.result) (ap view_opened c.in-Ok.is) c.open.ensures.opened.cause

pub returns-in-Err-clause-nothing : goal.returns-in-Err-clause-nothing
returns-in-Err-clause-nothing g c = λ ready. absurd (still-stale g.D.Disk g.met.D.Disk.counts_now g.met.D.Disk.only_now g.met.D.Disk.reads_fit
    (record { disk = c.self.inside.disk; view = c.self.inside.archive; views = c.self.inside.views; stale = c.self.inside.stale }) c.args.self.now c.self.view_is c.if-not-self.false ready)

pub returns-in-Err-clause-found : goal.returns-in-Err-clause-found
returns-in-Err-clause-found g c = unopened-from g.D.Disk g.met.D.Disk.counts_now g.met.D.Disk.only_now g.met.D.Disk.reads_fit
    (record { disk = c.self.inside.disk; view = c.self.inside.archive; views = c.self.inside.views; stale = c.self.inside.stale }) c.args.self.now c.self.view_is c.law_of_recovery.ensures.some_one
    (record { disk = c.open.new.disk; view = c.self.inside.archive; views = c.self.inside.views; stale = c.self.inside.stale }) c.in-Err.refusal (c.open.ensures.opened.before, opens-between g.D.Disk c.self.inside.disk c.open.new.disk (view_opened c.open.result) c.open.ensures.opened.crash_root) c.in-Err.ensures.opened.well c.in-Err.ensures.refused (ap not c.if-not-self.false)

pub returns-in-Err-clause-crash : goal.returns-in-Err-clause-crash
returns-in-Err-clause-crash g c = passes-from g.D.Disk g.met.D.Disk.counts_now g.met.D.Disk.only_now g.met.D.Disk.reads_fit
    (record { disk = c.self.inside.disk; view = c.self.inside.archive; views = c.self.inside.views; stale = c.self.inside.stale }) c.args.self.now c.self.view_is c.law_of_recovery.ensures.some_one
    (record { disk = c.open.new.disk; view = c.self.inside.archive; views = c.self.inside.views; stale = c.self.inside.stale }) (c.open.ensures.opened.before, opens-between g.D.Disk c.self.inside.disk c.open.new.disk (view_opened c.open.result) c.open.ensures.opened.crash_root)

pub returns-in-Err-clause-ready : goal.returns-in-Err-clause-ready
returns-in-Err-clause-ready g c = ap not c.if-not-self.false

pub returns-in-Err-clause-cause : goal.returns-in-Err-clause-cause
returns-in-Err-clause-cause g c = opening-why-from g.D.Disk g.met.D.Disk.counts_now g.met.D.Disk.only_now g.met.D.Disk.reads_fit
    (record { disk = c.self.inside.disk; view = c.self.inside.archive; views = c.self.inside.views; stale = c.self.inside.stale }) c.args.self.now c.self.view_is
    g.D.Disk.faults c.open.new.disk c.in-Err.refusal (view_opened c.open.result) (ap view_opened c.in-Err.is) c.open.ensures.opened.cause

pub returns-then-not-self-clause-opened : goal.returns-then-not-self-clause-opened
returns-then-not-self-clause-opened g c = λ stale. absurd (false≢true (sym stale ∙ still-ready g.D.Disk g.met.D.Disk.counts_now g.met.D.Disk.only_now g.met.D.Disk.reads_fit
    (record { disk = c.self.inside.disk; view = c.self.inside.archive; views = c.self.inside.views; stale = c.self.inside.stale }) c.args.self.now c.self.view_is c.if-not-self.true))

pub returns-then-not-self-clause-refused : goal.returns-then-not-self-clause-refused
returns-then-not-self-clause-refused g c = λ stale. tt

pub returns-in-Ok-clause-opened : goal.returns-in-Ok-clause-opened
returns-in-Ok-clause-opened g c = λ stale. opens-from g.D.Disk g.met.D.Disk.counts_now g.met.D.Disk.only_now g.met.D.Disk.reads_fit
    (record { disk = c.self.inside.disk; view = c.self.inside.archive; views = c.self.inside.views; stale = c.self.inside.stale }) c.args.self.now c.self.view_is c.open.new.disk (Ok c.in-Ok.field-0.archive) c.in-Ok.ensures.opened

pub returns-in-Ok-clause-refused : goal.returns-in-Ok-clause-refused
returns-in-Ok-clause-refused g c = λ stale. tt

pub returns-in-Err-clause-opened : goal.returns-in-Err-clause-opened
returns-in-Err-clause-opened g c = λ stale. opens-from g.D.Disk g.met.D.Disk.counts_now g.met.D.Disk.only_now g.met.D.Disk.reads_fit
    (record { disk = c.self.inside.disk; view = c.self.inside.archive; views = c.self.inside.views; stale = c.self.inside.stale }) c.args.self.now c.self.view_is c.open.new.disk (Err c.in-Err.refusal) c.in-Err.ensures.opened

pub returns-in-Err-clause-refused : goal.returns-in-Err-clause-refused
returns-in-Err-clause-refused g c = λ stale. kindly-from g.D.Disk g.met.D.Disk.counts_now g.met.D.Disk.only_now g.met.D.Disk.reads_fit
    (record { disk = c.self.inside.disk; view = c.self.inside.archive; views = c.self.inside.views; stale = c.self.inside.stale }) c.args.self.now c.self.view_is {T = Unit {0}} c.open.new.disk (Err c.in-Err.refusal) c.in-Err.ensures.refused
