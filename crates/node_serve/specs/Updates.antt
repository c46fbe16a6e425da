-- What sessions that idle are told after each event (RFC 2177): the archive is reopened, and then each of
-- them is given its update, in rising order of connections.
use Rattle.std.specs.Prelude.{◌≡◌, ◌≤◌, ◌<◌, ℕ, zero, suc, Bool, true, false, ◌||◌, List, [], ◌∷◌, Option, Some, None}
use Rattle.line_door.specs.Acts.{Said, Departure, Plain, DepartureCause, held_if}
use Rattle.line_door.specs.Over.{said_over}
use Rattle.line_door.specs.Plain.{silent}
use Rattle.arch_model.specs.Archives.{Archive}
use Rattle.arch_model.specs.Standing.{LastKnown, standing}
use Rattle.arch_model.specs.declared.opening.OpenRefusal.{OpenRefusal}
use Rattle.keep_course.specs.Answering.{said_reopening}
use Rattle.imap_session.specs.Idling as idling
use Rattle.imap_states.specs.States as states
use Rattle.node_serve.specs.World.{NodeState, ActAt, with_disk}
use Rattle.node_serve.specs.declared.session.Session.{Session}
use Rattle.node_serve.specs.declared.session.Session.TheVariants as session

-- The session idles. Only one at the door of IMAP may.
abbrev pub idles : Session → Bool
idles (session.Imap client) = states.idles client.0
idles other = false

-- The same of the session of a connection, if it has one.
abbrev pub idles_if : Option Session → Bool
idles_if None = false
idles_if (Some start) = idles start

-- What the update of a session says over the archive that stands, in each way. One at a door without
-- updates is told nothing.
abbrev pub said_update : LastKnown → Session → Departure → Said Session LastKnown
said_update s (session.Imap client) way = said_over (λ (a : Archive). standing a s.in_doubt)
    session.Imap (idling.said_update s.archive client way)
said_update s start way = silent s start

-- Each connection has a number below this one.
unfoldable pub connection_limit : ℕ
connection_limit = 4294967296

-- The connections with numbers below the given one do this, in rising order.
abbrev pub EachBelow : (ℕ → NodeState → NodeState → Type 0) → ℕ → NodeState → NodeState → Type 0
EachBelow does zero w v = v ≡ w
EachBelow does (suc c) w v = (m : NodeState) × EachBelow does c w m × does c m v

-- A session that idles does this, and another one nothing.
abbrev pub IfIdles : Bool → Type 0 → NodeState → NodeState → Type 0
IfIdles true does w v = does
IfIdles false does w v = v ≡ w

-- One update of a session. It meets no fault of the disk.
abbrev pub UpdateAct : Session → ℕ → NodeState → NodeState → Type 0
UpdateAct start c w v = ActAt c (said_update w.standing start) w v × (v.out.disk ≡ w.out.disk)

-- The session of a connection, if it idles, is given its update.
abbrev pub UpdateBy : Option Session → ℕ → NodeState → NodeState → Type 0
UpdateBy None c w v = v ≡ w
UpdateBy (Some start) c w v = IfIdles (idles start) (UpdateAct start c w v) w v

abbrev pub UpdateAt : ℕ → NodeState → NodeState → Type 0
UpdateAt c w v = UpdateBy (w.session c) c w v

-- A session of a connection with a number below the given one idles.
abbrev pub idles_below : ℕ → (ℕ → Option Session) → Bool
idles_below zero session = false
idles_below (suc c) session = idles_below c session || idles_if (session c)

-- A session idles.
unfoldable pub any_idles : (ℕ → Option Session) → Bool
any_idles session = idles_below connection_limit session

-- The world, where the keeper stands so and its disk has this count of faults.
abbrev pub with_keeper : LastKnown → ℕ → NodeState → NodeState
with_keeper s disk w = record {
  standing = s;
  session = w.session;
  count = w.count;
  out = with_disk disk w.out;
}

-- What reopening the archive before updates says: nothing, whatever comes of it.
abbrev pub reopening : LastKnown → Departure → Said (Unit {0}) LastKnown
reopening s way = said_reopening (λ (why : OpenRefusal). []) s tt way

-- The archive was reopened before updates, or that was refused.
pub record ReopenedFor (opened : Bool) (w v : NodeState) : Type 0 where
  pub way : Departure
  pub cause : DepartureCause way w.out.disk v.out.disk
  pub disk_later : w.out.disk ≤ v.out.disk
  pub opened_is : held_if opened tt ≡ (reopening w.standing way).next
  pub world_is : v ≡ with_keeper (reopening w.standing way).after v.out.disk w

-- Where the archive is open, each session that idles is given its update.
abbrev pub EachIf : Bool → NodeState → NodeState → Type 0
EachIf true w v = EachBelow UpdateAt connection_limit w v
EachIf false w v = v ≡ w

-- The archive was reopened, which left the world `refreshed`, and then each session that idles was given its
-- update. `reopened` is how the archive stood after the reopening. No update changes that.
pub record UpdatedThrough (w : NodeState) (reopened : List LastKnown) (v : NodeState) : Type 0 where
  pub opened : Bool
  pub refreshed : NodeState
  pub reopening_is : ReopenedFor opened w refreshed
  pub each : EachIf opened refreshed v
  pub reopened_is : reopened ≡ refreshed.standing ∷ []

-- This is done where a session idles. Else there is nothing to do, and no archive is reopened.
abbrev pub UpdatedIf : Bool → NodeState → List LastKnown → NodeState → Type 0
UpdatedIf true w reopened v = UpdatedThrough w reopened v
UpdatedIf false w reopened v = (v ≡ w) × (reopened ≡ [])

-- The updates after an event. After one that is a stop there are none.
abbrev pub UpdatedUnless : Bool → NodeState → List LastKnown → NodeState → Type 0
UpdatedUnless true w reopened v = (v ≡ w) × (reopened ≡ [])
UpdatedUnless false w reopened v = UpdatedIf (any_idles w.session) w reopened v

-- A session that idles, if it is one, has nothing more to be told.
abbrev pub IsTold : LastKnown → Option Session → Type 0
IsTold s held = (start : Session) → held ≡ Some start → idles start ≡ true
    → said_update s start Plain ≡ silent s start

-- No session that idles has more to be told.
abbrev pub AllTold : NodeState → Type 0
AllTold w = (c : ℕ) → c < connection_limit → IsTold w.standing (w.session c)
