-- A write applied again, with its bytes or with as many of the value 255.
use Rattle.std.proofs.Common.{◌∙◌, ap, sym}
use Rattle.std.proofs.lemmas.Result.{on_ok_weaker}
use Rattle.disk_model.specs.Applied.{apply_file}
use Rattle.disk_model.specs.Record.{file_at}
use Rattle.disk_model.proofs.Steps.{put_applies}
use Rattle.disk_model.proofs.again.apply.Goals as goal

pub returns-in-Write : goal.returns-in-Write
returns-in-Write c =
    let old = c.args.files.now in
    let new = c.put_filled.new.files in
    on_ok_weaker c.put_filled.result
    (λ sets other. put_applies old new c.in-Write.name c.in-Write.offset c.args.fill c.deref.result.now c.in-Write.bytes (sym c.deref.ensures.value) sets other ∙ ap (apply_file c.args.fill other (file_at old other)) (sym c.in-Write.is))
    c.put_filled.ensures
