use Rattle.std.proofs.Common.{ap, sym, refl, ◌∙◌}
use Rattle.arch_model.specs.Archives.{Archive}
use Rattle.mem_archive.proofs.Delivering.{removed-mirror, removed-none}
use Rattle.mem_archive.proofs.memory.MemArchive.remove.Goals as goal

pub returns-then-self : goal.returns-then-self
returns-then-self c = record {
  done = removed-mirror c.args.self.now c.args.number c.args.moment (sym (ap (λ (a : Archive). a.config.mirror) c.self.view_is) ∙ c.if-self.true);
  untouched = refl;
}

pub returns-in-Ok-None : goal.returns-in-Ok-None
returns-in-Ok-None c = record {
  done = removed-none c.args.self.now c.args.number c.args.moment (sym (ap (λ (a : Archive). a.config.mirror) c.self.view_is) ∙ c.if-self.false) (sym c.in-Ok-None.ensures ∙ c.in-Ok-None.field-0-is);
  untouched = refl;
}

pub end_message-requires : goal.end_message-requires
end_message-requires c = record {
  writable = sym (ap (λ (a : Archive). a.config.mirror) c.self.view_is) ∙ c.if-self.false;
  live = sym c.in-Ok-Some.ensures ∙ c.in-Ok-Some.field-0-is;
}
