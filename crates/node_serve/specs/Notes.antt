-- Private: what a node notes of sessions that idle, by what happened and what was noted before.
use Rattle.std.specs.Prelude.{◌≡◌, ◌⊎◌, Bool, true, false, Option, Some, None}
use Rattle.edge_io.specs.declared.events.What.{What}
use Rattle.edge_io.specs.declared.events.What.TheVariants as what
use Rattle.node_serve.specs.Nodes.{Serving, places_in}
use Rattle.node_serve.specs.Updates.{idles_if}
use Rattle.node_serve.specs.declared.session.Session.{Session}
use Rattle.node_serve.specs.declared.session.Session.TheVariants as session
use Rattle.node_serve.specs.declared.updates.Idling.{Idling}
use Rattle.node_serve.specs.declared.updates.Idling.TheVariants.{Nobody, Told, Untold}

-- The session's door only reads. At the others commands come that may change the archive.
abbrev pub reads_only : Session → Bool
reads_only (session.Control bytes) = false
reads_only (session.News reader) = true
reads_only (session.Pop client) = true
reads_only (session.Http bytes) = true
reads_only (session.Lmtp guest) = false
reads_only (session.Imap client) = true

-- The same of the session of a connection. Without one a piece is skipped.
abbrev pub reads_only_if : Option Session → Bool
reads_only_if None = true
reads_only_if (Some start) = reads_only start

-- What is noted of others after a piece, by whether its door only reads: that all were told is no longer
-- known where the archive may have changed.
abbrev pub note_through : Idling → Bool → Idling
note_through Nobody reads = Nobody
note_through Told true = Told
note_through Told false = Untold
note_through Untold reads = Untold

-- A note stays if this session, which alone may have begun to idle, doesn't.
abbrev pub NoteStays : Idling → Option Session → Idling → Type 0
NoteStays note held after = ((after ≡ note) × (idles_if held ≡ false)) ⊎ (after ≡ Untold)

-- What is noted after the acts of what happened.
abbrev pub NotesAfter : {K : Type 0} → What → Serving K → Serving K → Type 0
NotesAfter (what.Opened c door) old new =
    NoteStays old.idling ((places_in new).session c) new.idling
NotesAfter (what.Bytes c len) old new =
    NoteStays (note_through old.idling (reads_only_if ((places_in old).session c)))
    ((places_in new).session c) new.idling
NotesAfter (what.Ended c) old new = NoteStays old.idling ((places_in new).session c) new.idling
NotesAfter what.Quiet old new = new.idling ≡ old.idling
NotesAfter what.Stop old new = new.idling ≡ old.idling
