-- What events do by the rules: no allocation fails, the disk answers, and no send is lost. As a
-- function of a world, and as a relation whose acts all go in the way `Plain`.
use Rattle.std.specs.Prelude.{◌≡◌, ◌==◌, ◌+◌, ◌-◌, ◌≤◌, ℕ, zero, suc, Bool, true, false, List, [], ◌∷◌, ◌++◌, length, Option, Some, None, if◌then◌else◌}
use Rattle.edge_io.specs.Scripts.{Arrival}
use Rattle.edge_io.specs.Taken.{plus}
use Rattle.edge_io.specs.declared.events.What.{What}
use Rattle.edge_io.specs.declared.events.What.TheVariants as what
use Rattle.line_door.specs.Acts.{Said, Departure, Plain, PlainActs}
use Rattle.line_door.specs.Course.{SessionState, talk, PlainRequests, PlainLast}
use Rattle.line_door.specs.Plain.{plain}
use Rattle.keep_course.specs.Courses.{afters}
use Rattle.arch_model.specs.Standing.{LastKnown}
use Rattle.control_door.specs.Door as control
use Rattle.line_door.specs.Readers as readers
use Rattle.lmtp_door.specs.Door as mail
use Rattle.node_serve.specs.declared.session.Session.{Session}
use Rattle.imap_framer.specs.Doors.{framed_size}
use Rattle.node_serve.specs.Doors.{SessionAtWork, Came, AtControl, AtNews, AtPop, AtHttp, AtLmtp, AtImap, with_piece, rest_if, said, is_asked, said_making}
use Rattle.node_serve.specs.Ends.{is_stop}
use Rattle.node_serve.specs.Turns.{Turn}
use Rattle.node_serve.specs.Updates.{connection_limit, idles, any_idles, EachBelow, IfIdles, said_update, reopening, with_keeper}
use Rattle.node_serve.specs.World.{NodeState, outer, Around, Same, EndedAt, outside_at, others_open, one_if, closed_if, closed_at_if, open_below}

-- The size of a session at its door. Each request that leaves it open makes it smaller.
abbrev pub size_at_door : SessionAtWork → ℕ
size_at_door (Came start piece) = 0
size_at_door (AtControl w) = control.left w
size_at_door (AtNews reader) = readers.left reader
size_at_door (AtPop client) = readers.left client
size_at_door (AtHttp bytes) = length bytes
size_at_door (AtLmtp guest) = mail.size_of guest
size_at_door (AtImap client) = framed_size client

-- The size of a session at work, which the reopening before a piece makes smaller, too.
abbrev pub size_of : SessionAtWork → ℕ
size_of (Came start piece) = suc (size_at_door (with_piece start piece))
size_of h = size_at_door h

-- What a piece says: the answers to its whole requests in order, after which the rest is kept.
abbrev pub piece_said : ℕ → LastKnown → SessionAtWork → Said SessionAtWork LastKnown
piece_said moment s held = plain (said moment) is_asked size_of s held

-- What stands after an act, and after those that follow it, unless it closes the session.
abbrev pub then_passed : {H A : Type 0} → Option H → A → (A → H → List A) → List A
then_passed None a more = a ∷ []
then_passed (Some h) a more = a ∷ more a h

-- What stands after a request and the acts that follow, or, without one, after the rest is kept.
abbrev pub passed_if : {H A : Type 0} → Bool → Said H A → A → (A → H → List A) → List A
passed_if true s a more = then_passed s.next s.after more
passed_if false s a more = a ∷ []

-- What stands after each act of a piece: after each of at most `n` requests, and after the rest, unless
-- a request closes the session.
abbrev pub passed_from : {H A : Type 0} → (A → H → Departure → Said H A) → (H → Bool) → ℕ → A → H → List A
passed_from said is_request zero a h = a ∷ []
passed_from said is_request (suc n) a h =
    passed_if (is_request h) (said a h Plain) a (passed_from said is_request n)

-- The same for all requests of a session, which are no more than its size.
unfoldable pub passed_by : {H A : Type 0} → (A → H → Departure → Said H A) → (H → Bool) → (H → ℕ) → A → H
    → List A
passed_by said is_request size a h = passed_from said is_request (suc (size h)) a h

-- How the archive stands after each act of a piece.
abbrev pub piece_passed : ℕ → LastKnown → SessionAtWork → List LastKnown
piece_passed moment s held = passed_by (said moment) is_asked size_of s held

-- The value at this number is this one, and the others stay.
abbrev pub set_at : {X : Type 0} → ℕ → X → (ℕ → X) → ℕ → X
set_at c x f d = if d == c then x else f d

-- The same words, over the sessions between two pieces.
abbrev pub between_pieces : Said SessionAtWork LastKnown → Said Session LastKnown
between_pieces s =
    record { next = rest_if s.next; words = s.words; streamed = s.streamed; after = s.after }

-- The world after all these words reached a connection. The connection is closed if they leave no
-- session.
abbrev pub after_said : ℕ → Said Session LastKnown → NodeState → NodeState
after_said c s w = record {
  standing = s.after;
  session = set_at c s.next w.session;
  count = (w.count + one_if s.next) - one_if (w.session c);
  out = outer (set_at c (plus (w.out.taken c) s.words) w.out.taken)
      (set_at c (closed_if s.next (w.out.closings c)) w.out.closings) w.out.disk w.out.lost
      (set_at c (closed_at_if s.next (plus (w.out.taken c) s.words) (w.out.closed_at c))
      w.out.closed_at);
}

-- The world after the session of a connection ended without a word, if it had one.
abbrev pub after_end : ℕ → NodeState → NodeState
after_end c w = record {
  standing = w.standing;
  session = set_at c None w.session;
  count = w.count - one_if (w.session c);
  out = w.out;
}

-- What some acts make of a world: how the archive stood after each of them, and the world after them.
pub record Change : Type 0 where
  pub passed : List LastKnown
  pub after : NodeState

-- The change of these two parts.
abbrev pub change_to : List LastKnown → NodeState → Change
change_to passed v = record { passed = passed; after = v }

-- A piece that came to a session, if there is one.
abbrev pub plain_piece : Option Session → ℕ → ℕ → List ℕ → NodeState → Change
plain_piece None moment c piece w = change_to [] w
plain_piece (Some start) moment c piece w =
    change_to (piece_passed moment w.standing (Came start piece))
    (after_said c (between_pieces (piece_said moment w.standing (Came start piece))) w)

-- What happened at a moment.
abbrev pub plain_event : What → ℕ → List ℕ → NodeState → Change
plain_event (what.Opened c door) moment piece w =
    change_to [] (after_said c (said_making moment door (others_open c w) w.standing Plain) w)
plain_event (what.Bytes c len) moment piece w = plain_piece (w.session c) moment c piece w
plain_event (what.Ended c) moment piece w = change_to [] (after_end c w)
plain_event what.Quiet moment piece w = change_to [] w
plain_event what.Stop moment piece w = change_to [] w

-- The acts of one event, with its piece.
abbrev pub plain_acted : Arrival → NodeState → Change
plain_acted arrival w = plain_event arrival.0.what arrival.0.moment arrival.1 w

-- The update of the session of a connection, if it idles.
abbrev pub update_if : Bool → Session → ℕ → NodeState → NodeState
update_if true start c w = after_said c (said_update w.standing start Plain) w
update_if false start c w = w

abbrev pub update_of : Option Session → ℕ → NodeState → NodeState
update_of None c w = w
update_of (Some start) c w = update_if (idles start) start c w

abbrev pub plain_update : ℕ → NodeState → NodeState
plain_update c w = update_of (w.session c) c w

-- The updates of the connections with numbers below the given one, in rising order.
abbrev pub plain_updates : ℕ → NodeState → NodeState
plain_updates zero w = w
plain_updates (suc c) w = plain_update c (plain_updates c w)

-- The world once the archive was reopened.
abbrev pub opened_plainly : NodeState → NodeState
opened_plainly w = with_keeper (reopening w.standing Plain).after w.out.disk w

-- The updates where a session idles. Else nothing is done.
abbrev pub plain_updated_if : Bool → NodeState → Change
plain_updated_if true w = change_to ((reopening w.standing Plain).after ∷ [])
    (plain_updates connection_limit (opened_plainly w))
plain_updated_if false w = change_to [] w

-- The updates after an event, unless it is a stop.
abbrev pub plain_updated : Bool → NodeState → Change
plain_updated true w = change_to [] w
plain_updated false w = plain_updated_if (any_idles w.session) w

-- The turn of these acts and updates.
abbrev pub turn_of : Change → Change → Turn
turn_of acted updated = record {
  passed = acted.passed;
  between = acted.after;
  reopened = updated.passed;
  after = updated.after;
}

-- One event, with its piece, by the rules.
abbrev pub plain_turn : Arrival → NodeState → Turn
plain_turn arrival w = turn_of (plain_acted arrival w)
    (plain_updated (is_stop arrival.0.what) (plain_acted arrival w).after)

-- These events in order, by the rules.
abbrev pub plain_turns : List Arrival → NodeState → List Turn
plain_turns [] w = []
plain_turns (arrival ∷ arrivals) w =
    plain_turn arrival w ∷ plain_turns arrivals (plain_turn arrival w).after

-- The world after these turns.
abbrev pub last_world : NodeState → List Turn → NodeState
last_world w [] = w
last_world w (t ∷ ts) = last_world t.after ts

-- At least as many sessions are counted as are open.
abbrev pub CountsSessions : NodeState → Type 0
CountsSessions w = (n : ℕ) → open_below n w.session ≤ w.count

-- The relation.

-- One act on a connection by the rules, all of whose words were taken.
pub record PlainActAt (c : ℕ) (s : Said Session LastKnown) (w v : NodeState) : Type 0 where
  pub acts : PlainActs s (outside_at c w.out) (v.session c) v.standing (outside_at c v.out)
  pub around : Around c w v

-- A piece came to the session of a connection, and each of its acts is a plain one.
pub record PlainFedAt (moment c : ℕ) (start : Session) (piece : List ℕ) (w : NodeState)
    (passed : List LastKnown) (v : NodeState) : Type 0 where
  pub held : Option SessionAtWork
  pub acts : List (SessionState SessionAtWork LastKnown)
  pub before : SessionState SessionAtWork LastKnown
  pub each : PlainRequests (said moment) is_asked
      (talk (Some (Came start piece)) w.standing (outside_at c w.out)) acts before
  pub last : PlainLast (said moment) is_asked before
      (talk held v.standing (outside_at c v.out))
  pub rest_is : v.session c ≡ rest_if held
  pub around : Around c w v
  pub passed_is : passed ≡ afters (acts ++ talk held v.standing (outside_at c v.out) ∷ [])

-- A piece came to a connection, and each of its acts is a plain one. Without a session it is skipped.
abbrev pub PlainCameTo : Option Session → ℕ → ℕ → List ℕ → NodeState → List LastKnown → NodeState → Type 0
PlainCameTo None moment c piece w passed v = Same w v × (passed ≡ [])
PlainCameTo (Some start) moment c piece w passed v = PlainFedAt moment c start piece w passed v

-- What happened at a moment, by plain acts.
abbrev pub PlainActedBy : What → ℕ → List ℕ → NodeState → List LastKnown → NodeState → Type 0
PlainActedBy (what.Opened c door) moment piece w passed v =
    PlainActAt c (said_making moment door (others_open c w) w.standing Plain) w v × (passed ≡ [])
PlainActedBy (what.Bytes c len) moment piece w passed v =
    PlainCameTo (w.session c) moment c piece w passed v
PlainActedBy (what.Ended c) moment piece w passed v = EndedAt c w v × (passed ≡ [])
PlainActedBy what.Quiet moment piece w passed v = Same w v × (passed ≡ [])
PlainActedBy what.Stop moment piece w passed v = Same w v × (passed ≡ [])

-- The session of a connection, if it idles, is given its update by a plain act.
abbrev pub PlainUpdateBy : Option Session → ℕ → NodeState → NodeState → Type 0
PlainUpdateBy None c w v = v ≡ w
PlainUpdateBy (Some start) c w v =
    IfIdles (idles start) (PlainActAt c (said_update w.standing start Plain) w v) w v

abbrev pub PlainUpdateAt : ℕ → NodeState → NodeState → Type 0
PlainUpdateAt c w v = PlainUpdateBy (w.session c) c w v

-- Where a session idles the archive was reopened by the rules, and each that idles was given its update by
-- a plain act.
abbrev pub PlainUpdatedIf : Bool → NodeState → List LastKnown → NodeState → Type 0
PlainUpdatedIf true w reopened v = EachBelow PlainUpdateAt connection_limit (opened_plainly w) v
    × (reopened ≡ (opened_plainly w).standing ∷ [])
PlainUpdatedIf false w reopened v = (v ≡ w) × (reopened ≡ [])

-- The updates after an event, unless it is a stop, by plain acts.
abbrev pub PlainUpdatedUnless : Bool → NodeState → List LastKnown → NodeState → Type 0
PlainUpdatedUnless true w reopened v = (v ≡ w) × (reopened ≡ [])
PlainUpdatedUnless false w reopened v = PlainUpdatedIf (any_idles w.session) w reopened v

-- One event, each of whose acts and updates is a plain act.
abbrev pub PlainTurned : Arrival → NodeState → Turn → Type 0
PlainTurned arrival w t =
    PlainActedBy arrival.0.what arrival.0.moment arrival.1 w t.passed t.between
    × PlainUpdatedUnless (is_stop arrival.0.what) t.between t.reopened t.after

-- These events in order, each with such a turn.
abbrev pub PlainServed : List Arrival → NodeState → List Turn → NodeState → Type 0
PlainServed [] w [] v = v ≡ w
PlainServed [] w (t ∷ ts) v = ⊥
PlainServed (arrival ∷ arrivals) w [] v = ⊥
PlainServed (arrival ∷ arrivals) w (t ∷ ts) v =
    PlainTurned arrival w t × PlainServed arrivals t.after ts v
