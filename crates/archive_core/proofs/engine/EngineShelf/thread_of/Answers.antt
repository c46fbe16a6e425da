use Rattle.std.proofs.Common.{◌≡◌, ◌∙◌, ap}
use Rattle.std.proofs.lemmas.Result.{IfOk-weaker}
use Rattle.arch_model.specs.Archives.{live}
use Rattle.arch_model.specs.Threading.{thread_in as threaded}
use Rattle.view_set.specs.Threads.{thread_in}
use Rattle.view_set.proofs.Messages.{threads-are}
use Rattle.view_set.specs.Viewed.{Viewed}
use Rattle.archive_core.proofs.Engines.{views-inside}
use Rattle.archive_core.proofs.engine.EngineShelf.thread_of.Goals as goal

pub returns : goal.returns
returns g c = λ a store.
    let views_are = views-inside g.D.Disk g.met.D.Disk.counts_now g.met.D.Disk.only_now g.met.D.Disk.reads_fit
    (record { disk = c.self.inside.disk; view = c.self.inside.archive; views = c.self.inside.views; stale = c.self.inside.stale }) c.args.self.now c.self.view_is a store in
    IfOk-weaker c.thread_of.result (λ ns. ns ≡ thread_in c.self.inside.views.rows c.args.n) (λ ns. ns ≡ threaded (live a.entries) c.args.n)
    (λ ns is. is ∙ ap (λ (v : Viewed). thread_in v.rows c.args.n) views_are ∙ threads-are a.config.form (live a.entries) c.args.n) c.thread_of.ensures.members
