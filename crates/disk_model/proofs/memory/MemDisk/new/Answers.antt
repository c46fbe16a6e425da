-- Two empty maps, and no change.
use Rattle.std.proofs.Common.{◌∙◌, sym}
use Rattle.disk_model.proofs.FileMaps.{no_file}
use Rattle.disk_model.proofs.Steps.{starts_current}
use Rattle.disk_model.proofs.memory.MemDisk.new.Goals as goal

pub invariant_of-result : goal.invariant_of-result
invariant_of-result c =
    record { current = starts_current c.new-3.result c.new.result c.new-2.result.items c.new-2.ensures.items (λ name. no_file c.new.result name c.new.ensures.empty ∙ sym (no_file c.new-3.result name c.new-3.ensures.empty)) }
