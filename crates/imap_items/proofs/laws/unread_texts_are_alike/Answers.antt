use Rattle.imap_items.proofs.Unread.{unread}
use Rattle.imap_items.proofs.laws.unread_texts_are_alike.Goals as goal

pub returns : goal.returns
returns c = unread
