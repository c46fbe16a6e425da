use Rattle.imap_commands.proofs.Leaving.{laws_hold}
use Rattle.imap_commands.proofs.laws.command_laws.Goals as goal

pub returns : goal.returns
returns c = laws_hold
