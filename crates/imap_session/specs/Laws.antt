-- The laws of the door: cuts of the bytes change nothing, an update tells nothing twice, and what a
-- client knows goes on suiting the archive.
use Rattle.std.specs.Prelude.{◌≡◌, ◌≢◌, ℕ, List, Some, true, false}
use Rattle.arch_model.specs.Archives.{Archive}
use Rattle.arch_model.specs.Validity.{IsArchive}
use Rattle.line_door.specs.Acts.{Departure, Plain}
use Rattle.line_door.specs.Cuts.{DoorLaws}
use Rattle.line_door.specs.Making.{says}
use Rattle.line_door.specs.Plain.{silent}
use Rattle.line_door.specs.Updates.{UpdateDoor, UpdatedCutLaw}
use Rattle.known_uids.specs.Staying.{GoneStay}
use Rattle.imap_framer.specs.Framing.{LiteralPart, front_of}
use Rattle.imap_framer.specs.Doors.{held_with, framed_more, framed_size}
use Rattle.imap_states.specs.Notices.{go_line}
use Rattle.imap_states.specs.States.{idles, SuitsClient}
use Rattle.imap_session.specs.Door.{ImapClient, takes_literals, said, has_request, new_client}
use Rattle.imap_session.specs.Idling.{updated_client, tells, said_update}

-- Feeding one piece and then another says and leaves what feeding both at once does. The acts of one
-- piece and then of another are acts of both, even if allocations, the disk or sends fail. Acts
-- without such failures are the plain function, in both directions.
abbrev pub ImapCuts : Type 0
ImapCuts = DoorLaws said has_request framed_more framed_size

-- The same with an update of the session after each piece: however the bytes are cut, as much is said
-- and left as with one piece and one update.
pub record ImapUpdates : Type 0 where
  pub door : UpdateDoor said has_request framed_more framed_size updated_client tells
  pub cut : UpdatedCutLaw said has_request framed_more framed_size updated_client tells

-- Updates: by the rules one tells what changed; a session that doesn't idle is left alone; and a
-- session that was just given its update is told nothing.
pub record UpdateLaws : Type 0 where
  pub by_rules : (a : Archive) (client : ImapClient)
      → said_update a client Plain ≡ says a (updated_client a client) (tells a client)
  pub alone : (a : Archive) (client : ImapClient) (way : Departure) → idles client.0 ≡ false
      → said_update a client way ≡ silent a client
  pub once : (a : Archive) (client : ImapClient)
      → said_update a (updated_client a client) Plain ≡ silent a (updated_client a client)

-- What a client knows suits the archive: in a new session, after each act and each update, and in each
-- later archive to which no number that is gone came back.
pub record SessionsSuit : Type 0 where
  pub new : (a : Archive) → IsArchive a → SuitsClient a new_client.0
  pub acts : (a : Archive) (client after : ImapClient) (way : Departure) → SuitsClient a client.0
      → (said a client way).next ≡ Some after → SuitsClient a after.0
  pub updates : (a : Archive) (client after : ImapClient) (way : Departure) → SuitsClient a client.0
      → (said_update a client way).next ≡ Some after → SuitsClient a after.0
  pub later : (a b : Archive) (client : ImapClient) → GoneStay a b → IsArchive b
      → SuitsClient a client.0 → SuitsClient b client.0

-- Literals: a part that announces octets is answered by `+ go` and held; and while a session idles no
-- line announces any.
pub record LiteralLaws : Type 0 where
  pub go_on : (a : Archive) (client : ImapClient) (part rest : List ℕ) (n : ℕ)
      → front_of (takes_literals client.0) client.1 ≡ LiteralPart part n rest
      → said a client Plain ≡ says a (client.0, held_with client.1 part n rest) go_line
  pub none : (client : ImapClient) (part rest : List ℕ) (n : ℕ) → idles client.0 ≡ true
      → front_of (takes_literals client.0) client.1 ≢ LiteralPart part n rest

-- The laws.
pub record ImapLaws : Type 0 where
  pub cuts : ImapCuts
  pub updates : ImapUpdates
  pub told : UpdateLaws
  pub suits : SessionsSuit
  pub literals : LiteralLaws
