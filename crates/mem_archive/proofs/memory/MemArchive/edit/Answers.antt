use Rattle.std.proofs.Common.{ap, sym, refl, ◌∙◌}
use Rattle.arch_model.specs.Archives.{Archive}
use Rattle.mem_archive.proofs.Delivering.{edited-mirror}
use Rattle.mem_archive.proofs.memory.MemArchive.edit.Goals as goal

pub returns-then-self : goal.returns-then-self
returns-then-self c = record { done = edited-mirror c.args.self.now c.args.number c.args.bytes.now c.args.moment (sym (ap (λ (a : Archive). a.config.mirror) c.self.view_is) ∙ c.if-self.true); untouched = refl }
