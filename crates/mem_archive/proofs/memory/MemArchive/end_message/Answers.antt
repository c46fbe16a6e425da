use Rattle.std.proofs.Common.{◌∙◌, ap}
use Rattle.git_objects.specs.Objects.{blob_id_of}
use Rattle.arch_model.specs.Archives.{Archive}
use Rattle.mem_archive.proofs.Delivering.{removed-some}
use Rattle.mem_archive.proofs.memory.MemArchive.end_message.Goals as goal

pub returns-in-Ok : goal.returns-in-Ok
returns-in-Ok c = record {
  done = removed-some c.args.self.now c.push_deletion.new.self c.args.number c.args.moment c.args.text c.as_slice.result.now c.blob_id-id.result c.requires.writable c.requires.live (c.blob_id-id.ensures.value ∙ ap (λ (a : Archive). blob_id_of a.config.form c.as_slice.result.now) c.self.view_is) c.as_slice.ensures c.in-Ok.ensures.ok;
  untouched = tt;
}
