use Rattle.std.proofs.Common.{◌≡◌, ◌++◌, ℕ, List, ap, subst, ◌∙◌}
use Rattle.thread_model.specs.Members.{Among}
use Rattle.thread_tree.proofs.Stepped.{added-kept}
use Rattle.thread_tree.proofs.twigs.Twigs.add.Goals as goal

pub invariant_of-self-2 : goal.invariant_of-self-2
invariant_of-self-2 c =
    let own : c.copy.inside.items.items ≡ c.args.id.now = c.copy.view_is ∙ c.in_ok-push_slice.ensures ∙ ap (λ (bytes : List ℕ). bytes ++ c.args.id.now) c.new-copy.ensures in
    added-kept c.self.inside.twigs.items c.reserve.new.self.items c.push.new.self.items _ c.args.id.now c.self.inside.indices c.put_index.new.index _ c.in_ok-push.ensures.items c.in_ok-reserve.ensures.items c.self.invariant
    (λ u h e. c.requires u (subst (λ ts. Among ts u) c.self.view_is h) e) own c.in_ok-put_index.ensures.ok
