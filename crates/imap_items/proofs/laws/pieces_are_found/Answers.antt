use Rattle.imap_items.proofs.PieceLemmas.{pieces-found}
use Rattle.imap_items.proofs.laws.pieces_are_found.Goals as goal

pub returns : goal.returns
returns c = pieces-found
