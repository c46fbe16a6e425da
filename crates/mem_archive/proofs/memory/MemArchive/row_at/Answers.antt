use Rattle.std.proofs.Common.{◌∙◌, ap}
use Rattle.arch_model.specs.Archives.{Archive, live}
use Rattle.overview_index.specs.Listings.{row_in}
use Rattle.overview_index.proofs.Messages.{row-is}
use Rattle.view_set.specs.Viewed.{Viewed, views_of}
use Rattle.mem_archive.proofs.memory.MemArchive.row_at.Goals as goal

pub returns : goal.returns
returns c = c.get.ensures ∙ ap (λ (v : Viewed). row_in v.rows c.args.number) (c.self.invariant.1 ∙ ap (λ (a : Archive). views_of a.config.form (live a.entries)) c.self.view_is) ∙ row-is c.args.self.now.config.form (live c.args.self.now.entries) c.args.number
