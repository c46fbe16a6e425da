use Rattle.node_serve.proofs.Telling.{update-over}
use Rattle.node_serve.proofs.session.tell_session.Goals as goal

pub returns-in-Imap-clause-told : goal.returns-in-Imap-clause-told
returns-in-Imap-clause-told g c = rw c.in-Imap.is (λ a disk held suits.
    update-over c.in-Imap.client c.update.new.self _ a _ _ (c.update.ensures.told a disk held suits))
