use Rattle.arch_model.proofs.Keepers.{reopens-sure}
use Rattle.arch_model.proofs.laws.reindex_keeps_the_archive.Goals as goal

pub returns : goal.returns
returns c = reopens-sure
