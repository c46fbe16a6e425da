-- How many texts the door reads at most to answer what a session has at its front.
use Rattle.std.specs.Prelude.{◌+◌, ℕ, zero, suc, max, List, ◌++◌, Option, Some, None, if◌then◌else◌}
use Rattle.arch_model.specs.Archives.{Archive}
use Rattle.line_door.specs.Acts.{Departure, Plain, Memory, Disk, Newer}
use Rattle.imap_framer.specs.Framing.{PartFront, LastPart, LiteralPart, ExcessPart, OpenPart, front_of}
use Rattle.imap_framer.specs.Doors.{framed_size}
use Rattle.imap_states.specs.States.{idles}
use Rattle.imap_states.specs.declared.state.ImapState.{ImapState}
use Rattle.imap_commands.specs.Texts.{command_texts}
use Rattle.imap_session.specs.Door.{ImapClient, takes_literals, said, has_request}

-- How many texts are read at most to answer the octets of a whole command. A line that ends idling
-- reads none.
abbrev pub answer_texts : Archive → ImapState → List ℕ → ℕ
answer_texts a s octets = if idles s then 0 else command_texts a s octets

-- How many the part at the front of a session reads.
abbrev pub front_texts : Archive → ImapClient → PartFront → ℕ
front_texts a client (LastPart part rest) = answer_texts a client.0 (client.1.held ++ part)
front_texts a client (LiteralPart part n rest) = 0
front_texts a client (ExcessPart rest) = 0
front_texts a client OpenPart = 0

-- How many an act of a session reads.
abbrev pub act_texts : Archive → ImapClient → ℕ
act_texts a client = front_texts a client (front_of (takes_literals client.0) client.1)

-- A count of the session after an act, if it is open.
abbrev pub count_of : (ImapClient → ℕ) → Option ImapClient → ℕ
count_of count None = 0
count_of count (Some client) = count client

-- The greatest of a count in each way.
abbrev pub most_of : (Departure → ℕ) → ℕ
most_of count = max (max (count Plain) (count Memory)) (max (count Disk) (count Newer))

-- How many texts up to `n` parts at the front read, whichever way each of them goes: a command that
-- finds no memory leaves the session as it was, and those after it may read other texts than else.
abbrev pub texts_from : ℕ → Archive → ImapClient → ℕ
texts_from zero a client = 0
texts_from (suc n) a client = if has_request client then act_texts a client
    + most_of (λ (way : Departure). count_of (texts_from n a) (said a client way).next) else 0

-- How many texts all parts at the front read. Each makes the session smaller.
unfoldable pub texts_ahead : Archive → ImapClient → ℕ
texts_ahead a client = texts_from (suc (framed_size client)) a client
