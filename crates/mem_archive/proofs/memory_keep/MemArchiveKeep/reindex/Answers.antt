use Rattle.mem_archive.proofs.Commanding.{reindex-done}
use Rattle.mem_archive.proofs.memory_keep.MemArchiveKeep.reindex.Goals as goal

pub returns-clause-found : goal.returns-clause-found
returns-clause-found c = λ s fits. reindex-done c.args.self.now s fits c.message_count.result c.message_count.ensures
