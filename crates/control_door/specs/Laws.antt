-- The answers to a control connection do not depend on how its bytes are cut.
use Rattle.std.specs.Prelude.{◌≡◌, ℕ, true, false, List, ◌++◌, Option, Some, None}
use Rattle.line_door.specs.Acts.{ConnectionState, Said, Acts}
use Rattle.line_door.specs.Course.{SessionState, talk, Requests, Fed}
use Rattle.line_door.specs.Plain.{plain}
use Rattle.line_door.specs.Cuts.{DoorLaws, LeftWithRest}
use Rattle.arch_model.specs.Archives.{Archive}
use Rattle.arch_model.specs.Standing.{LastKnown, standing}
use Rattle.control_door.specs.Requests.{is_request}
use Rattle.control_door.specs.Door.{Waiting, waiting, said, said_opening, has_request, with_piece, left as size_of}

-- The bytes of a session, if it is open.
abbrev pub bytes_of : Option Waiting → Option (List ℕ)
bytes_of None = None
bytes_of (Some w) = Some w.bytes

-- Two acts say the same, and leave the same bytes and the same archive.
pub record SaysTheSame (s t : Said Waiting LastKnown) : Type 0 where
  pub bytes : bytes_of s.next ≡ bytes_of t.next
  pub words : s.words ≡ t.words
  pub after : s.after ≡ t.after

-- If nothing is in doubt, a session that still has to reopen is answered like one that does not.
abbrev pub OpeningIsSilent : Type 0
OpeningIsSilent =
    (moment : ℕ) (a : Archive) (bytes : List ℕ) →
    SaysTheSame (plain (said moment) has_request size_of (standing a None) (waiting bytes false))
    (plain (said moment) has_request size_of (standing a None) (waiting bytes true))

-- A reopening before a piece that completes a request, and then the acts of the piece, make one
-- course. The reopening is the one before that request in the joined piece.
abbrev pub OpeningJoins : Type 0
OpeningJoins =
    (moment : ℕ) (bytes : List ℕ) (s t : LastKnown) (i j : ConnectionState)
    (v : SessionState Waiting LastKnown) →
    is_request bytes ≡ true →
    Acts (said_opening s bytes) i (Some (waiting bytes true)) t j →
    Fed (said moment) has_request (talk (Some (waiting bytes true)) t j) v →
    Fed (said moment) has_request (talk (Some (waiting bytes false)) s i) v

-- Two calls with pieces `p` and `q` of one connection, whatever stands between them. The requests of
-- the first call are the first ones of both pieces joined. If `q` completes a request, the reopening
-- before the second call is the one before that request, and with it the second call is a course that
-- starts with what the joined pieces leave after the first call: in the archive, at the moment and at
-- the outside of its own time.
pub record CallsJoin (moment later : ℕ) (bytes p q : List ℕ) (s : LastKnown) (o : ConnectionState)
    (v : SessionState Waiting LastKnown) (k : Waiting) (u : LastKnown) (i : ConnectionState)
    (z : SessionState Waiting LastKnown)
    : Type 0 where
  pub acts : List (SessionState Waiting LastKnown)
  pub rest : SessionState Waiting LastKnown
  pub first : Requests (said moment) has_request
      (talk (Some (waiting (bytes ++ (p ++ q)) true)) s o) acts rest
  pub left : LeftWithRest (said moment) has_request with_piece size_of q k rest v
  pub second : Fed (said later) has_request (talk (Some (waiting (k.bytes ++ q) false)) u i) z

-- The law of two calls: a first call that left a session open, a reopening that found the archive, and
-- a second call join so.
abbrev pub TwoCalls : Type 0
TwoCalls =
    (moment later : ℕ) (bytes p q : List ℕ) (s : LastKnown) (o : ConnectionState)
    (v : SessionState Waiting LastKnown)
    (k : Waiting) (u t : LastKnown) (i j : ConnectionState) (z : SessionState Waiting LastKnown) →
    Fed (said moment) has_request (talk (Some (waiting (bytes ++ p) true)) s o) v →
    v.held ≡ Some k →
    is_request (k.bytes ++ q) ≡ true →
    Acts (said_opening u (k.bytes ++ q)) i (Some (waiting (k.bytes ++ q) true)) t j →
    Fed (said later) has_request (talk (Some (waiting (k.bytes ++ q) true)) t j) z →
    CallsJoin moment later bytes p q s o v k u i z

-- At every moment: feeding `p` and then `q` says and leaves what feeding both at once does. The
-- acts of one piece and then of another are acts of both, even if allocations, the disk or sends
-- fail. Acts without such failures are the plain function, in both directions.
pub record ControlLaws : Type 0 where
  pub door : (moment : ℕ) → DoorLaws (said moment) has_request with_piece size_of
  pub opening : OpeningIsSilent
  pub joins : OpeningJoins
  pub calls : TwoCalls
