-- What an event may make of a world: its acts in their order, each by the rules of its door or by a
-- departure that they name, for a cause in that very act; and then the updates of sessions that idle.
use Rattle.std.specs.Prelude.{◌≡◌, ℕ, List, [], ◌∷◌, ◌++◌, Option, Some, None}
use Rattle.edge_io.specs.Scripts.{Arrival}
use Rattle.edge_io.specs.Frames.{Outputs, outputs}
use Rattle.edge_io.specs.declared.events.What.{What}
use Rattle.edge_io.specs.declared.events.What.TheVariants as what
use Rattle.line_door.specs.Course.{SessionState, talk, Requests, Last}
use Rattle.keep_course.specs.Courses.{afters}
use Rattle.arch_model.specs.Standing.{LastKnown}
use Rattle.node_serve.specs.declared.session.Session.{Session}
use Rattle.node_serve.specs.Doors.{SessionAtWork, Came, rest_if, said, is_asked, said_making}
use Rattle.node_serve.specs.Ends.{is_stop}
use Rattle.node_serve.specs.Updates.{UpdatedUnless}
use Rattle.node_serve.specs.World.{NodeState, ActAt, Same, EndedAt, Around, outside_at, others_open}

-- A piece came to the session of a connection. The archive was reopened, the whole requests were
-- answered in order, and the rest was kept, unless an act closed the connection. Nothing else of the
-- world changed. `passed` is how the archive stood after each act.
pub record FedAt (moment c : ℕ) (start : Session) (piece : List ℕ) (w : NodeState)
    (passed : List LastKnown) (v : NodeState) : Type 0 where
  pub held : Option SessionAtWork
  pub acts : List (SessionState SessionAtWork LastKnown)
  pub before : SessionState SessionAtWork LastKnown
  pub each : Requests (said moment) is_asked
      (talk (Some (Came start piece)) w.standing (outside_at c w.out)) acts before
  pub last : Last (said moment) is_asked before (talk held v.standing (outside_at c v.out))
  pub rest_is : v.session c ≡ rest_if held
  pub around : Around c w v
  pub passed_is : passed ≡ afters (acts ++ talk held v.standing (outside_at c v.out) ∷ [])

-- A piece came to a connection. Without a session it is skipped.
abbrev pub CameTo : Option Session → ℕ → ℕ → List ℕ → NodeState → List LastKnown → NodeState → Type 0
CameTo None moment c piece w passed v = Same w v × (passed ≡ [])
CameTo (Some start) moment c piece w passed v = FedAt moment c start piece w passed v

-- What happened at a moment. A connection that opens ends an open session of its own without a word;
-- then its session is made, which greets, or is refused.
abbrev pub ActedBy : What → ℕ → List ℕ → NodeState → List LastKnown → NodeState → Type 0
ActedBy (what.Opened c door) moment piece w passed v =
    ActAt c (said_making moment door (others_open c w) w.standing) w v × (passed ≡ [])
ActedBy (what.Bytes c len) moment piece w passed v =
    CameTo (w.session c) moment c piece w passed v
ActedBy (what.Ended c) moment piece w passed v = EndedAt c w v × (passed ≡ [])
ActedBy what.Quiet moment piece w passed v = Same w v × (passed ≡ [])
ActedBy what.Stop moment piece w passed v = Same w v × (passed ≡ [])

-- The acts of one event, with its piece.
abbrev pub Acted : Arrival → NodeState → List LastKnown → NodeState → Type 0
Acted arrival w passed v = ActedBy arrival.0.what arrival.0.moment arrival.1 w passed v

-- One event of many: how the archive stood after each of its acts, and the world after these; how the
-- archive stood after the reopening before the updates, or its refusal, if there was one, and the world
-- after them.
pub record Turn : Type 0 where
  pub passed : List LastKnown
  pub between : NodeState
  pub reopened : List LastKnown
  pub after : NodeState

-- One event: its acts, and then the updates of sessions that idle.
abbrev pub Turned : Arrival → NodeState → Turn → Type 0
Turned arrival w t = Acted arrival w t.passed t.between
    × UpdatedUnless (is_stop arrival.0.what) t.between t.reopened t.after

-- These events in order, each with its turn.
abbrev pub Served : List Arrival → NodeState → List Turn → NodeState → Type 0
Served [] w [] v = v ≡ w
Served [] w (t ∷ ts) v = ⊥
Served (arrival ∷ arrivals) w [] v = ⊥
Served (arrival ∷ arrivals) w (t ∷ ts) v = Turned arrival w t × Served arrivals t.after ts v

-- How the archive stood after each act of these turns, and after each reopening.
abbrev pub passed_in : List Turn → List LastKnown
passed_in [] = []
passed_in (t ∷ ts) = t.passed ++ (t.reopened ++ passed_in ts)

-- What connections had taken, how often each was closed, and how many sends were lost, in a world.
abbrev pub outputs_of : NodeState → Outputs
outputs_of w = outputs w.out.taken w.out.closings w.out.lost

-- The same before each of these turns.
abbrev pub outputs_before : NodeState → List Turn → List Outputs
outputs_before w [] = []
outputs_before w (t ∷ ts) = outputs_of w ∷ outputs_before t.after ts
