use Rattle.mem_archive.proofs.Delivering.{unless-ok}
use Rattle.mem_archive.proofs.memory.MemArchive.deliver_on.Goals as goal

pub returns-in-Ok : goal.returns-in-Ok
returns-in-Ok c = record { done = unless-ok c.args.self.now c.args.other c.deliver.new.self c.in-Ok.number c.in-Ok.id _ c.in-Ok.ensures.done; untouched = tt }
