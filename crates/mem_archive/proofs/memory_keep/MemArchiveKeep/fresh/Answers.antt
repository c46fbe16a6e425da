use Rattle.mem_archive.proofs.Commanding.{fresh-done}
use Rattle.mem_archive.proofs.memory_keep.MemArchiveKeep.fresh.Goals as goal

pub returns-clause-found : goal.returns-clause-found
returns-clause-found c = λ s fits. fresh-done c.args.self.now s fits
