use Rattle.std.proofs.Common.{ℕ, subst}
use Rattle.arch_base.specs.declared.config.Config.{Config}
use Rattle.git_objects.specs.Fronts.{AppendsPiece}
use Rattle.mirror_wire.specs.Lists.{list_of}
use Rattle.mirror_wire.specs.Parts.{head_part}
use Rattle.mirror_wire.proofs.Spelling.{list-said}
use Rattle.mirror_wire.proofs.writing.write.Goals as goal

pub returns : goal.returns
returns g c = record {
  text = λ a held.
      list-said a.config.form (list_of a) c.new-text.result c.push_head.new.into c.push_entries.new.into c.push_slice.new.self c.new-text.ensures
      (subst (λ (config : Config). AppendsPiece c.new-text.result c.push_head.new.into (head_part config.form config.name a.next)) (c.config.ensures a held)
      (subst (λ (n : ℕ). AppendsPiece c.new-text.result c.push_head.new.into (head_part c.config.result.now.form c.config.result.now.name n)) (c.next_number.ensures a held) c.in_ok-push_head.ensures))
      (c.in_ok-push_entries.ensures a held) c.in_ok-push_slice.ensures;
}
