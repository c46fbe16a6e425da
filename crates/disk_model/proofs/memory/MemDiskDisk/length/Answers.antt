-- The length of a file that is there, and of one that is missing.
use Rattle.std.proofs.Common.{ℕ, List, length, sym, ap, arith}
use Rattle.disk_model.proofs.Steps.{seen_found, seen_missing}
use Rattle.disk_model.proofs.memory.MemDiskDisk.length.Goals as goal

pub returns-in-Some-clause-length : goal.returns-in-Some-clause-length
returns-in-Some-clause-length c =
    let disk = c.args.self.now in
    let file = c.in-Some.file.now in
    let same = ap (λ (b : List ℕ). length b) (seen_found disk.files disk.base disk.changes.items c.args.name file disk.current c.in-Some.ensures.value) in
    omega (arith, same, file.ok.0, c.len.ensures)

pub returns-in-None-clause-length : goal.returns-in-None-clause-length
returns-in-None-clause-length c =
    let disk = c.args.self.now in
    sym (ap (λ (b : List ℕ). length b) (seen_missing disk.files disk.base disk.changes.items c.args.name disk.current c.in-None.ensures.value))
