-- The record has one more change, and time advances by one. A sync that fails changes nothing.
use Rattle.std.proofs.Common.{Some}
use Rattle.disk_model.specs.Disk.{Synced}
use Rattle.disk_model.specs.Laws.{NotSynced-same}
use Rattle.disk_model.specs.Record.{file_at, content_of}
use Rattle.disk_model.specs.Applied.{record_reads_fit}
use Rattle.disk_model.proofs.Steps.{moved, moved_time, all_synced, not_synced}
use Rattle.disk_model.proofs.memory.MemDiskDisk.sync.Goals as goal

pub returns-then-fails-clause-torn : goal.returns-then-fails-clause-torn
returns-then-fails-clause-torn c =
    let disk = c.args.self.now in
    NotSynced-same (Some (content_of (file_at disk.base) disk.changes.items)) (record_reads_fit (file_at disk.base) disk.changes.items)

pub returns-in-Ok-clause-durable : goal.returns-in-Ok-clause-durable
returns-in-Ok-clause-durable c =
    let disk = c.args.self.now in
    moved Synced disk.base c.settle.new.self.base disk.changes.items c.settle.new.self.changes.items _ c.in-Ok.ensures.base c.in-Ok.ensures.ok (all_synced (file_at disk.base) disk.changes.items)

pub returns-in-Ok-clause-time : goal.returns-in-Ok-clause-time
returns-in-Ok-clause-time c =
    let disk = c.args.self.now in
    moved_time disk.base c.settle.new.self.base disk.changes.items c.settle.new.self.changes.items _ c.in-Ok.ensures.base c.in-Ok.ensures.ok

pub returns-in-Err-clause-torn : goal.returns-in-Err-clause-torn
returns-in-Err-clause-torn c =
    let disk = c.args.self.now in
    not_synced disk.base c.settle.new.self.base disk.changes.items c.settle.new.self.changes.items c.in-Err.ensures.base c.in-Err.ensures.err
