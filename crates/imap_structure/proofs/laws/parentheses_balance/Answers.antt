use Rattle.imap_structure.proofs.Nesting.{balanced}
use Rattle.imap_structure.proofs.laws.parentheses_balance.Goals as goal

pub returns : goal.returns
returns c = balanced
