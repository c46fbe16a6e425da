use Rattle.std.proofs.Common.{◌∙◌}
use Rattle.mem_archive.proofs.Places.{shown_is}
use Rattle.mem_archive.proofs.memory.MemArchive.text.Goals as goal

pub returns : goal.returns
returns c = c.shown_at.ensures ∙ shown_is c.self.inside.config c.self.inside.kept.items c.self.inside.places.items c.self.inside.index c.self.inside.end c.args.self.now c.self.view_is c.self.invariant.0 c.as_slice-2.result.now c.as_slice.result.now c.args.number c.place_of-found.result c.as_slice-2.ensures.value c.as_slice.ensures.value c.place_of-found.ensures
