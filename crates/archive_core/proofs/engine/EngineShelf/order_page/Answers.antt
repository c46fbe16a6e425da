use Rattle.std.proofs.Common.{◌≡◌, ◌∙◌, ap, take, drop}
use Rattle.std.proofs.lemmas.Result.{IfOk-weaker}
use Rattle.arch_model.specs.Archives.{live}
use Rattle.arch_model.specs.Listings.{listing as listed}
use Rattle.overview_index.specs.Listings.{listing}
use Rattle.overview_index.proofs.Messages.{listing-is}
use Rattle.view_set.specs.Viewed.{Viewed}
use Rattle.archive_core.proofs.Engines.{views-inside}
use Rattle.archive_core.proofs.engine.EngineShelf.order_page.Goals as goal

pub returns : goal.returns
returns g c = λ a store.
    let views_are = views-inside g.D.Disk g.met.D.Disk.counts_now g.met.D.Disk.only_now g.met.D.Disk.reads_fit
    (record { disk = c.self.inside.disk; view = c.self.inside.archive; views = c.self.inside.views; stale = c.self.inside.stale }) c.args.self.now c.self.view_is a store in
    IfOk-weaker c.page.result (λ page. page ≡ take c.args.count (drop c.args.skip (listing c.self.inside.views.rows))) (λ page. page ≡ take c.args.count (drop c.args.skip (listed (live a.entries))))
    (λ page e. e ∙ ap (λ l. take c.args.count (drop c.args.skip l)) (ap (λ (v : Viewed). listing v.rows) views_are ∙ listing-is a.config.form (live a.entries))) c.page.ensures
