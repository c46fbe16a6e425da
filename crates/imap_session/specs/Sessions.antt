-- Private: the acts of the code.
use Rattle.std.specs.Prelude.{◌≡◌, ◌<◌, ◌≤◌, ℕ, List, length, drop, Some, None, true, false}
use Rattle.arch_model.specs.Archives.{Archive}
use Rattle.arch_model.specs.Shelves.{ReadsUpTo, ReadsAhead}
use Rattle.line_door.specs.Acts.{ConnectionState, Acts}
use Rattle.line_door.specs.declared.turn.LineAct.{LineAct}
use Rattle.line_door.specs.declared.turn.LineAct.TheVariants.{Went, Kept, Closed}
use Rattle.imap_framer.specs.Doors.{framed_more}
use Rattle.imap_session.specs.Counting.{texts_ahead}
use Rattle.imap_session.specs.Door.{ImapClient, said, has_request}

-- One act on the bytes at the front: a part that took `n` bytes of the piece was answered and the
-- session is open, or the piece was kept, or the session is closed.
abbrev pub IsImapAct : Archive → ImapClient → List ℕ → ConnectionState → LineAct → ImapClient
    → ConnectionState → Type 0
IsImapAct a old piece i (Went n) new j = (has_request (framed_more piece old) ≡ true)
    × Acts (said a (framed_more piece old)) i (Some (framed_more (drop n piece) new)) a j
IsImapAct a old piece i Kept new j = (new ≡ framed_more piece old) × (j ≡ i)
IsImapAct a old piece i Closed new j = Acts (said a (framed_more piece old)) i None a j

-- A part takes bytes of the piece. What is kept has no part that has ended.
abbrev pub TakesPart : List ℕ → LineAct → ImapClient → Type 0
TakesPart piece (Went n) new = (0 < n) × (n ≤ length piece)
TakesPart piece Kept new = has_request new ≡ false
TakesPart piece Closed new = Unit {0}

-- The reads of one act, and as many as the bytes after it may still ask for, are at most those that all
-- bytes may ask for.
abbrev pub PartActReads : Archive → ImapClient → List ℕ → LineAct → ImapClient → ℕ → ℕ → Type 0
PartActReads a old piece (Went n) new before now =
    ReadsAhead (texts_ahead a (framed_more piece old)) (texts_ahead a (framed_more (drop n piece) new))
    before now
PartActReads a old piece Kept new before now = now ≡ before
PartActReads a old piece Closed new before now =
    ReadsUpTo (texts_ahead a (framed_more piece old)) before now
