use Rattle.std.proofs.Common.{◌≡◌, ◌∙◌, ap}
use Rattle.std.proofs.lemmas.Result.{IfOk-weaker}
use Rattle.arch_model.specs.Archives.{Archive, live}
use Rattle.arch_model.specs.Threading.{thread_in as threaded}
use Rattle.view_set.specs.Threads.{thread_in}
use Rattle.view_set.proofs.Messages.{threads-are}
use Rattle.view_set.specs.Viewed.{Viewed, views_of}
use Rattle.mem_archive.proofs.memory.MemArchive.thread.Goals as goal

pub returns : goal.returns
returns c =
    let es = live c.args.self.now.entries in
    IfOk-weaker c.thread_of.result (λ ns. ns ≡ thread_in c.self.inside.views.rows c.args.number) (λ ns. ns ≡ threaded es c.args.number)
    (λ ns is. is ∙ ap (λ (v : Viewed). thread_in v.rows c.args.number) (c.self.invariant.1 ∙ ap (λ (a : Archive). views_of a.config.form (live a.entries)) c.self.view_is) ∙ threads-are c.args.self.now.config.form es c.args.number) c.thread_of.ensures.members
