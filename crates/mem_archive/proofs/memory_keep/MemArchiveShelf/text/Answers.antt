use Rattle.mem_archive.proofs.Commanding.{text-none}
use Rattle.mem_archive.proofs.memory_keep.MemArchiveShelf.text.Goals as goal

pub returns-in-None-clause-text : goal.returns-in-None-clause-text
returns-in-None-clause-text c = text-none c.args.self.now c.args.n c.args.into.now c.in-None.ensures c.requires.live
