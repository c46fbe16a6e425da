use Rattle.mem_archive.proofs.Commanding.{command-done, stays-ready, never-fails}
use Rattle.mem_archive.proofs.memory_keep.MemArchiveKeep.command.Goals as goal

pub returns-clause-done : goal.returns-clause-done
returns-clause-done c = λ s fits. command-done c.args.self.now c.command.new.self c.args.command.now c.args.moment s fits c.command.result c.command.ensures.done

pub returns-clause-ready : goal.returns-clause-ready
returns-clause-ready c = stays-ready c.args.self.now c.command.new.self _ c.command.result c.command.ensures.done

pub returns-clause-cause : goal.returns-clause-cause
returns-clause-cause c = never-fails c.args.self.now c.command.new.self _ c.command.result c.command.ensures.done
