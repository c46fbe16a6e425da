-- The files and a copy of them, and no change.
use Rattle.disk_model.proofs.Steps.{starts_current}
use Rattle.disk_model.proofs.memory.MemDisk.of_files.Goals as goal

pub invariant_of-result : goal.invariant_of-result
invariant_of-result c = record { current = starts_current c.args.files c.in_ok-base.base c.new.result.items c.new.ensures.items c.in_ok-base.ensures }
