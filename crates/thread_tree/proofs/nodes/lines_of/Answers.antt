use Rattle.std.proofs.Common.{get_or}
use Rattle.thread_model.proofs.Members.{get-among}
use Rattle.thread_tree.proofs.nodes.lines_of.Goals as goal

-- src/nodes.rt:141:20
pub line_at-requires : goal.line_at-requires
line_at-requires c = c.requires (get_or c.args.walked.now c.loop-depth.depth-index (0, 0)) (get-among c.args.walked.now c.loop-depth.depth-index (0, 0) c.loop-depth-test.true)
