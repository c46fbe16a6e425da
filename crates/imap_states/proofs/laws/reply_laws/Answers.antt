use Rattle.imap_states.proofs.Suiting.{state_laws}
use Rattle.imap_states.proofs.laws.reply_laws.Goals as goal

pub returns : goal.returns
returns c = state_laws
