use Rattle.std.proofs.Common.{List, ap, ◌∙◌}
use Rattle.thread_tree.specs.Trees.{names_id}
use Rattle.thread_tree.specs.declared.twigs.Twig.{Twig}
use Rattle.thread_tree.proofs.Stepped.{contains-id}
use Rattle.thread_tree.proofs.twigs.Twigs.contains.Goals as goal

pub returns : goal.returns
returns c = contains-id c.args.self.now c.args.id.now c.contains_key.result (c.contains_key.ensures ∙ c.self.invariant.1 c.args.id.now ∙ ap (λ (ts : List Twig). names_id ts c.args.id.now) c.self.view_is)
