-- What the update of a session at the door of IMAP says, said of the node's sessions.
use Rattle.std.proofs.Common.{◌≡◌, Bool, true, false, Option, None, refl, subst}
use Rattle.line_door.specs.Acts.{ConnectionState, Acts, held_if}
use Rattle.line_door.specs.Over.{held_over}
use Rattle.line_door.proofs.Lifting.{acts-over}
use Rattle.arch_model.specs.Archives.{Archive}
use Rattle.arch_model.specs.Standing.{standing}
use Rattle.imap_session.specs.Door.{ImapClient}
use Rattle.imap_session.specs.Idling as idling
use Rattle.node_serve.specs.Updates.{said_update}
use Rattle.node_serve.specs.declared.session.Session.{Session}
use Rattle.node_serve.specs.declared.session.Session.TheVariants as session

-- The session of a client, if it is open.
held-client : (goes_on : Bool) (left : ImapClient) → held_over session.Imap (held_if goes_on left) ≡ held_if goes_on (session.Imap left)
held-client true left = refl
held-client false left = refl

-- The update of a client is that of its session.
pub update-over : (client left : ImapClient) (goes_on : Bool) (a : Archive) (i j : ConnectionState) → Acts (idling.said_update a client) i (held_if goes_on left) a j → Acts (said_update (standing a None) (session.Imap client)) i (held_if goes_on (session.Imap left)) (standing a None) j
update-over client left goes_on a i j acts =
    subst (λ (o : Option Session). Acts (said_update (standing a None) (session.Imap client)) i o (standing a None) j) (held-client goes_on left)
    (acts-over (λ (x : Archive). standing x None) session.Imap (idling.said_update a client) (said_update (standing a None) (session.Imap client)) i (held_if goes_on left) a j (λ way. refl) acts)
