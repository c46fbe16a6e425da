-- The changes so far are applied.
use Rattle.std.proofs.Common.{◌≡◌, take}
use Rattle.disk_model.specs.declared.name.FileName.{FileName}
use Rattle.disk_model.specs.Record.{file_at}
use Rattle.disk_model.specs.Applied.{applied}
use Rattle.disk_model.proofs.again.apply_all.Given as goal

abbrev pub invariant-loop-change : goal.invariant-loop-change
invariant-loop-change l = (name : FileName) → file_at l.files name ≡ applied l.fill name (file_at l.fn.files name) (take l.change-index l.changes)
