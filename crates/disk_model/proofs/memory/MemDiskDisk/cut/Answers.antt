-- The record has one more change, and time advances by one.
use Rattle.disk_model.specs.Disk.{OneFile, CutTo}
use Rattle.disk_model.specs.Record.{file_at}
use Rattle.disk_model.proofs.Steps.{moved, moved_time, one_cut}
use Rattle.disk_model.proofs.memory.MemDiskDisk.cut.Goals as goal

pub returns-in-Ok-clause-cut : goal.returns-in-Ok-clause-cut
returns-in-Ok-clause-cut c =
    let disk = c.args.self.now in
    moved (OneFile c.args.name (CutTo c.args.length)) disk.base c.cut_file.new.self.base disk.changes.items c.cut_file.new.self.changes.items _ c.in-Ok.ensures.base c.in-Ok.ensures.ok (one_cut (file_at disk.base) disk.changes.items c.args.name c.args.length)

pub returns-in-Ok-clause-time : goal.returns-in-Ok-clause-time
returns-in-Ok-clause-time c =
    let disk = c.args.self.now in
    moved_time disk.base c.cut_file.new.self.base disk.changes.items c.cut_file.new.self.changes.items _ c.in-Ok.ensures.base c.in-Ok.ensures.ok
