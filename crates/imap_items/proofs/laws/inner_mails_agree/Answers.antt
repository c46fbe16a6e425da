use Rattle.imap_items.proofs.Spans.{inner-agree}
use Rattle.imap_items.proofs.laws.inner_mails_agree.Goals as goal

pub returns : goal.returns
returns c = inner-agree
