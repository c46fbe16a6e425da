use Rattle.std.proofs.Common.{◌++◌, ◌∷◌, [], ap, ◌∙◌, subst}
use Rattle.std.specs.Option.{option_to_list}
use Rattle.mime_parts.proofs.Turns.{Going, going_from, going_on}
use Rattle.mime_parts.proofs.visiting.tree.Goals as goal

pub loop-entity-init : goal.loop-entity-init
loop-entity-init c = going_from c.args.text.now c.new-parts.result c.push.new.self.items c.new-parts.ensures
    (c.in_ok-push.ensures.items ∙ ap (λ es. es ++ c.whole.result ∷ []) c.new-pending.ensures.items ∙ ap (λ e. e ∷ []) c.whole.ensures)

pub loop-entity-preserved : goal.loop-entity-preserved
loop-entity-preserved c =
    let before : Going c.args.text.now c.loop-entity.parts (c.pop.new.self.items ++ c.in-Some.entity ∷ []) =
    subst (Going c.args.text.now c.loop-entity.parts)
    (c.pop.ensures.items ∙ ap (λ o. c.pop.new.self.items ++ option_to_list o) c.in-Some.is) c.loop-entity.invariant in
    going_on c.args.text.now c.loop-entity.parts c.visit.new.parts c.pop.new.self.items c.visit.new.pending.items c.in-Some.entity before c.in_ok-visit.ensures
