use Rattle.std.proofs.Common.{◌∙◌, ap}
use Rattle.arch_model.specs.Archives.{Archive, live}
use Rattle.view_set.specs.Viewed.{views_of}
use Rattle.mem_archive.proofs.RowsKept.{ordered-kept}
use Rattle.mem_archive.proofs.memory.MemArchive.matching_page.Goals as goal

pub returns : goal.returns
returns c =
    c.search_page.ensures c.args.self.now.config.form c.args.self.now.entries (ordered-kept c.self.inside.config c.self.inside.kept.items c.self.inside.places.items c.self.inside.index c.self.inside.end c.args.self.now c.self.view_is c.self.invariant.0)
    (c.self.invariant.1 ∙ ap (λ (a : Archive). views_of a.config.form (live a.entries)) c.self.view_is)
