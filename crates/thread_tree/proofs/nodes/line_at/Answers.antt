use Rattle.thread_tree.specs.Nodes.{kept_line, node_in}
use Rattle.std.proofs.Common.{ap, sym, ◌∙◌}
use Rattle.std.proofs.lemmas.Result.{IfOk-weaker}
use Rattle.thread_tree.proofs.Stepped.{node-in}
use Rattle.thread_tree.proofs.nodes.line_at.Goals as goal

-- src/nodes.rt:120:1
pub returns : goal.returns
returns c =
    IfOk-weaker c.line_of.result _ _
    (λ line e. e ∙ ap (kept_line c.args.facts.now c.args.depth) (ap node_in c.index-nodes-index.is ∙ sym (node-in c.args.nodes.now c.args.index c.index-nodes-index.result c.requires)))
    c.line_of.ensures
