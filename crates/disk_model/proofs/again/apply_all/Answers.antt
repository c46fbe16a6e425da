-- One more change.
use Rattle.std.proofs.Common.{◌∙◌, ◌<◌, length, ap, sym, arith}
use Rattle.disk_model.specs.Disk.{File}
use Rattle.disk_model.specs.Applied.{apply_file}
use Rattle.disk_model.specs.Record.{file_at}
use Rattle.disk_model.proofs.Steps.{applied_more}
use Rattle.disk_model.proofs.again.apply_all.Goals as goal

pub loop-change-preserved : goal.loop-change-preserved
loop-change-preserved c = λ name.
    let i = c.loop-change.change-index in
    let changes = c.args.changes.now in
    let below : i < length changes = omega arith in
    c.in_ok-apply.ensures name ∙ (ap (λ (f : File). apply_file c.args.fill name f c.change-item.result) (c.loop-change.invariant name) ∙ sym (applied_more c.args.fill name (file_at c.args.files.now name) changes i c.change-item.result below c.change-item.is))
