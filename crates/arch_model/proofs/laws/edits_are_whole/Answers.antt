use Rattle.arch_model.proofs.Rewrites.{edits_whole}
use Rattle.arch_model.proofs.laws.edits_are_whole.Goals as goal

pub returns : goal.returns
returns c = edits_whole
