-- The record has one more change, and time advances by one.
use Rattle.disk_model.proofs.Steps.{moved_time, wrote_moved}
use Rattle.disk_model.proofs.memory.MemDiskDisk.write_at.Goals as goal

pub returns-in-Ok-clause-written : goal.returns-in-Ok-clause-written
returns-in-Ok-clause-written c =
    let disk = c.args.self.now in
    wrote_moved disk.base c.write.new.self.base disk.changes.items c.write.new.self.changes.items c.args.name c.args.place c.args.bytes.now c.in-Ok.ensures.ok.0 c.in-Ok.ensures.base c.in-Ok.ensures.ok.1 c.in-Ok.ensures.ok.2

pub returns-in-Ok-clause-time : goal.returns-in-Ok-clause-time
returns-in-Ok-clause-time c =
    let disk = c.args.self.now in
    moved_time disk.base c.write.new.self.base disk.changes.items c.write.new.self.changes.items _ c.in-Ok.ensures.base c.in-Ok.ensures.ok.2
