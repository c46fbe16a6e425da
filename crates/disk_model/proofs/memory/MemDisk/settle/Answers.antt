-- A sync changes no file.
use Rattle.std.specs.Result.{is_ok}
use Rattle.disk_model.proofs.Steps.{settles_current}
use Rattle.disk_model.proofs.memory.MemDisk.settle.Goals as goal

pub invariant_of-self : goal.invariant_of-self
invariant_of-self c =
    let disk = c.args.self.now in
    record { current = settles_current (is_ok c.push.result) disk.files disk.base disk.changes.items c.push.new.self.items disk.current c.push.ensures.items }
