use Rattle.std.proofs.Common.{◌≡◌, ◌∙◌, ap, take, drop}
use Rattle.std.proofs.lemmas.Result.{IfOk-weaker}
use Rattle.arch_model.specs.Archives.{Archive, live}
use Rattle.arch_model.specs.Listings.{listing as listed}
use Rattle.overview_index.specs.Listings.{listing}
use Rattle.overview_index.proofs.Messages.{listing-is}
use Rattle.view_set.specs.Viewed.{Viewed, views_of}
use Rattle.mem_archive.proofs.memory.MemArchive.page.Goals as goal

pub returns : goal.returns
returns c =
    let es = live c.args.self.now.entries in
    IfOk-weaker c.page.result (λ page. page ≡ take c.args.count (drop c.args.skip (listing c.self.inside.views.rows))) (λ page. page ≡ take c.args.count (drop c.args.skip (listed es)))
    (λ page e. e ∙ ap (λ l. take c.args.count (drop c.args.skip l)) (ap (λ (v : Viewed). listing v.rows) (c.self.invariant.1 ∙ ap (λ (a : Archive). views_of a.config.form (live a.entries)) c.self.view_is) ∙ listing-is c.args.self.now.config.form es)) c.page.ensures
