-- The update of a session that idles (RFC 2177): its client is told what changed.
use Rattle.std.specs.Prelude.{ℕ, List, [], if◌then◌else◌}
use Rattle.arch_model.specs.Archives.{Archive}
use Rattle.line_door.specs.Acts.{Said, Departure}
use Rattle.line_door.specs.Plain.{silent}
use Rattle.imap_framer.specs.Doors.{beside}
use Rattle.imap_states.specs.Replies.{updated, update_said}
use Rattle.imap_states.specs.States.{idles, place_lines}
use Rattle.imap_session.specs.Door.{ImapClient}

-- The session after its update: its client knows the messages that are there. One that doesn't idle
-- stays as it is.
abbrev pub updated_client : Archive → ImapClient → ImapClient
updated_client a client = if idles client.0 then (updated a client.0, client.1) else client

-- What the update tells: each message that is gone, and how many there are, if there are new ones. A
-- session that doesn't idle is told nothing.
abbrev pub tells : Archive → ImapClient → List ℕ
tells a client = if idles client.0 then place_lines a client.0.place else []

-- What an update says, in each way. Out of memory closes the session.
abbrev pub said_update : Archive → ImapClient → Departure → Said ImapClient Archive
said_update a client way =
    if idles client.0 then beside client.1 (update_said a client.0 way) else silent a client
