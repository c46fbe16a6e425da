-- The record has one more change, and time advances by one.
use Rattle.disk_model.specs.Disk.{OneFile, Removed}
use Rattle.disk_model.specs.Record.{file_at}
use Rattle.disk_model.proofs.Steps.{moved, moved_time, one_removal}
use Rattle.disk_model.proofs.memory.MemDiskDisk.remove.Goals as goal

pub returns-in-Ok-clause-removed : goal.returns-in-Ok-clause-removed
returns-in-Ok-clause-removed c =
    let disk = c.args.self.now in
    moved (OneFile c.args.name Removed) disk.base c.remove_file.new.self.base disk.changes.items c.remove_file.new.self.changes.items _ c.in-Ok.ensures.base c.in-Ok.ensures.ok (one_removal (file_at disk.base) disk.changes.items c.args.name)

pub returns-in-Ok-clause-time : goal.returns-in-Ok-clause-time
returns-in-Ok-clause-time c =
    let disk = c.args.self.now in
    moved_time disk.base c.remove_file.new.self.base disk.changes.items c.remove_file.new.self.changes.items _ c.in-Ok.ensures.base c.in-Ok.ensures.ok
