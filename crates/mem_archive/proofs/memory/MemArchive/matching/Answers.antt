use Rattle.std.proofs.Common.{◌≡◌, ◌∙◌, ap}
use Rattle.std.proofs.lemmas.Result.{IfOk-weaker}
use Rattle.arch_model.specs.Archives.{Archive, live}
use Rattle.arch_model.specs.Searching.{search}
use Rattle.view_set.specs.Viewed.{views_of, searched}
use Rattle.mem_archive.proofs.RowsKept.{found-kept}
use Rattle.mem_archive.proofs.memory.MemArchive.matching.Goals as goal

-- What the views find is what the archive has.
pub returns : goal.returns
returns c =
    let es = live c.args.self.now.entries in
    IfOk-weaker c.search.result (λ ns. ns ≡ searched c.args.query.now c.self.inside.views) (λ ns. ns ≡ search c.args.query.now es)
    (λ ns is. is ∙ ap (searched c.args.query.now) (c.self.invariant.1 ∙ ap (λ (a : Archive). views_of a.config.form (live a.entries)) c.self.view_is)
    ∙ found-kept c.self.inside.config c.self.inside.kept.items c.self.inside.places.items c.self.inside.index c.self.inside.end c.args.self.now c.self.view_is c.self.invariant.0 c.args.query.now) c.search.ensures
