use Rattle.mime_parts.proofs.TreeLaws.{trees}
use Rattle.mime_parts.proofs.laws.parts_are_a_tree.Goals as goal

pub returns : goal.returns
returns c = trees
