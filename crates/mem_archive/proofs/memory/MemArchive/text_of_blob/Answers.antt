use Rattle.mem_archive.proofs.Lines.{blob_in-none, blob_in-some}
use Rattle.mem_archive.proofs.memory.MemArchive.text_of_blob.Goals as goal

pub returns-in-None : goal.returns-in-None
returns-in-None c = blob_in-none c.self.inside.config c.self.inside.kept.items c.self.inside.places.items c.self.inside.index c.self.inside.end c.args.self.now c.self.view_is c.self.invariant.0 c.args.blob.now c.in-None.ensures

pub returns-in-Some : goal.returns-in-Some
returns-in-Some c = blob_in-some c.self.inside.config c.self.inside.kept.items c.self.inside.places.items c.self.inside.index c.self.inside.end c.args.self.now c.self.view_is c.self.invariant.0 c.args.blob.now c.in-Some.number _ c.in-Some.ensures c.text_once.ensures
