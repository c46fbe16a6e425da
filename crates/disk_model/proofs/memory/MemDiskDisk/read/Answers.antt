-- The bytes of a file that is there, and of one that is missing.
use Rattle.std.proofs.Common.{◌∙◌, sym, refl, arith, []}
use Rattle.disk_model.specs.Record.{file_at, content_of}
use Rattle.disk_model.proofs.Steps.{seen_found, seen_missing, has_read}
use Rattle.disk_model.proofs.memory.MemDiskDisk.read.Goals as goal

pub returns-in-Some-clause-bytes : goal.returns-in-Some-clause-bytes
returns-in-Some-clause-bytes c =
    let disk = c.args.self.now in
    let found = seen_found disk.files disk.base disk.changes.items c.args.name c.in-Some.file.now disk.current c.in-Some.ensures.value ∙ sym c.deref.ensures.value in
    has_read (content_of (file_at disk.base) disk.changes.items) c.args.name c.args.place c.copy_out.result c.args.into.now c.copy_out.new.into c.deref.result.now found c.copy_out.ensures.count c.copy_out.ensures.bytes

pub returns-in-None-clause-bytes : goal.returns-in-None-clause-bytes
returns-in-None-clause-bytes c =
    let disk = c.args.self.now in
    has_read (content_of (file_at disk.base) disk.changes.items) c.args.name c.args.place 0 c.args.into.now c.args.into.now [] (seen_missing disk.files disk.base disk.changes.items c.args.name disk.current c.in-None.ensures.value) (omega arith) refl
