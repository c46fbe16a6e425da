use Rattle.imap_structure.proofs.Trees.{forest-flat}
use Rattle.imap_structure.proofs.laws.forests_are_parts.Goals as goal

pub returns : goal.returns
returns c = forest-flat
