use Rattle.mem_archive.proofs.OwnIds.{owned-none, owned-some}
use Rattle.mem_archive.proofs.memory.MemArchive.number_by_id.Goals as goal

pub returns-in-None : goal.returns-in-None
returns-in-None c = owned-none c.self.inside.config c.self.inside.kept.items c.self.inside.places.items c.self.inside.index c.self.inside.end c.args.self.now c.self.view_is c.self.invariant.0 c.args.id.now c.in-None.ensures

pub returns-in-Some : goal.returns-in-Some
returns-in-Some c = owned-some c.self.inside.config c.self.inside.kept.items c.self.inside.places.items c.self.inside.index c.self.inside.end c.args.self.now c.self.view_is c.self.invariant.0 c.args.id.now c.in-Some.owner c.in-Some.ensures
