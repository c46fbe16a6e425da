-- What a node's values mean, and what its calls do.
use Rattle.std.specs.Prelude.{◌≡◌, ◌≤◌, ◌<◌, ◌⊎◌, ◌+◌, ℕ, Bool, true, false, List, [], ◌∷◌, ◌++◌, length, Option, Some, None, Result}
use Rattle.std.specs.Ordering.{nat_cmp}
use Rattle.std.specs.BTreeMap.{is_at}
use Rattle.std.specs.Map.{lookup}
use Rattle.arch_base.specs.Counts.{Rose}
use Rattle.edge_io.specs.Frames.{Outputs, outputs}
use Rattle.edge_io.specs.Hosts.{ToldEvents, then_given, before_left, NoneLeft, OthersKept, one_more, closed_with}
use Rattle.edge_io.specs.Phrases.{Says}
use Rattle.edge_io.specs.Scripts.{Arrival}
use Rattle.edge_io.specs.declared.events.Door.{Door}
use Rattle.edge_io.specs.declared.events.What.{What}
use Rattle.edge_io.specs.declared.events.What.TheVariants as what
use Rattle.edge_io.specs.declared.sink.SinkFault.{SinkFault}
use Rattle.line_door.specs.Acts.{ConnectionState, Departure, outside, held_if}
use Rattle.line_door.specs.Costs.{lines_cost}
use Rattle.line_door.specs.Course.{SessionState, talk}
use Rattle.keep_course.specs.Answering as answering
use Rattle.keep_course.specs.Answering.{ReopenedAs}
use Rattle.keep_course.specs.Courses.{SessionRun, KeeperActs, KeeperRun, KeptAlong, afters, archives_of}
use Rattle.control_door.specs.Counting.{Meets, asks_for}
use Rattle.nntp_reader.specs.Counting.{ReadsLines}
use Rattle.pop3_reader.specs.Door.{line_limit}
use Rattle.pop3_reader.specs.Replies.{line_texts}
use Rattle.http_front.specs.Sessions.{ReadsBytes, ReadsNothing}
use Rattle.arch_model.specs.Archives.{Archive}
use Rattle.arch_model.specs.Keeping.{CrashesLeaveOnly, MatchesKnown, KeeperMoves, Keeper}
use Rattle.arch_model.specs.Shelves.{ReadsUpTo}
use Rattle.arch_model.specs.Standing.{LastKnown, IsFound}
use Rattle.imap_framer.specs.Doors.{framed_more}
use Rattle.imap_session.specs.Counting.{texts_ahead}
use Rattle.imap_states.specs.States.{SuitsClient}
use Rattle.node_serve.specs.Doors.{SessionAtWork, Came, rest_if, said, is_asked, doors_at, with_piece, said_making}
use Rattle.node_serve.specs.Ends.{ServingEnds, given_after, before_all, is_stop}
use Rattle.node_serve.specs.Suiting.{SessionSuits, ClientsSuit, NotedIs}
use Rattle.node_serve.specs.Turns.{Turn, Acted, Served, passed_in, outputs_of, outputs_before}
use Rattle.node_serve.specs.Updates.{connection_limit, idles_if, any_idles, EachBelow, EachIf, IfIdles, UpdatedUnless, reopening, with_keeper}
use Rattle.node_serve.specs.World.{HostState, NodeState, ActAt, Around, outside_at, others_open, one_if, with_disk}
use Rattle.node_serve.specs.declared.session.Session.{Session}
use Rattle.node_serve.specs.declared.updates.Idling.{Idling}
use Rattle.node_serve.specs.declared.updates.Idling.TheVariants.{Told}
use Rattle.node_serve.specs.declared.session.Session.TheVariants as kind
use Rattle.node_serve.specs.declared.serving.ServeEnd.{ServeEnd}
use Rattle.node_serve.specs.declared.serving.Taken.{Taken}
use Rattle.node_serve.specs.declared.serving.Taken.TheVariants.{Went, Stops, Nothing, Fault}

-- The session of each connection that has one, and how many these are.
pub record OpenSessions : Type 0 where
  pub session : ℕ → Option Session
  pub count : ℕ

-- The session of a connection, from a list of connections with a session each.
abbrev pub session_of : List (ℕ × Session) → ℕ → Option Session
session_of sessions c = lookup (is_at (nat_cmp c)) sessions

-- The sessions of such a list.
abbrev pub places_of : List (ℕ × Session) → OpenSessions
places_of sessions = record { session = session_of sessions; count = length sessions }

-- A keeper, the open sessions over it, each with its connection, and what is noted of those that idle.
pub record Serving (K : Type 0) : Type 0 where
  pub keep : K
  pub sessions : List (ℕ × Session)
  pub idling : Idling

-- The node of these three parts.
abbrev pub serving : {K : Type 0} → K → List (ℕ × Session) → Idling → Serving K
serving keep sessions idling = record { keep = keep; sessions = sessions; idling = idling }

-- The open sessions of a node.
abbrev pub places_in : {K : Type 0} → Serving K → OpenSessions
places_in node = places_of node.sessions

-- The world of open sessions and what is outside of them, where the keeper stands so.
abbrev pub world_of : LastKnown → OpenSessions → HostState → NodeState
world_of s p o = record { standing = s; session = p.session; count = p.count; out = o }

-- A connection was refused: words of a door were written to it, and then it was closed.
pub record Refused (c : ℕ) (words : List ℕ) (i j : HostState) : Type 0 where
  pub sent : Result Unit SinkFault
  pub said : Says words (i.taken c) i.lost (j.taken c) j.lost sent
  pub taken : OthersKept c i.taken j.taken
  pub closings : OthersKept c i.closings j.closings
  pub closed : j.closings c ≡ one_more (i.closings c)
  pub disk : j.disk ≡ i.disk
  pub closed_at : j.closed_at c ≡ closed_with (j.taken c) (i.closed_at c)
  pub closed_at_others : OthersKept c i.closed_at j.closed_at

-- A session of a door was made at a connection at a moment, or refused.
abbrev pub MakesSession : ℕ → Door → ℕ → OpenSessions → HostState → OpenSessions → HostState → Type 0
MakesSession moment door c p i q j = (s : LastKnown)
    → ActAt c (said_making moment door (others_open c (world_of s p i)) s) (world_of s p i)
    (world_of s q j)

-- The session of a connection ended, if it had one.
pub record SessionEnds (c : ℕ) (p q : OpenSessions) : Type 0 where
  pub gone : q.session c ≡ None
  pub sessions : OthersKept c p.session q.session
  pub count : q.count + one_if (p.session c) ≡ p.count

-- A connection without a session got one, whichever it is.
pub record GotSession (c : ℕ) (p q : OpenSessions) : Type 0 where
  pub none : p.session c ≡ None
  pub first : Session
  pub some : q.session c ≡ Some first
  pub others : OthersKept c p.session q.session
  pub count : q.count ≡ p.count + 1

-- The session of a connection is another one.
pub record IsPut (c : ℕ) (start : Session) (p q : OpenSessions) : Type 0 where
  pub here : q.session c ≡ Some start
  pub others : OthersKept c p.session q.session
  pub count : q.count ≡ p.count

-- What connections had taken, how often each was closed, and how many sends were lost, each time that
-- a host was asked for the next event and answered: before each of these turns, and at the end if it
-- answered that none is left.
abbrev pub outputs_asked : Bool → NodeState → List Turn → NodeState → List Outputs
outputs_asked true w ts v = outputs_before w ts ++ outputs_of v ∷ []
outputs_asked false w ts v = outputs_before w ts

-- Nothing happened at a host or a node.
pub record TookNone {K : Type 0} (old : Serving K) (i : HostState) (new : Serving K) (j : HostState)
    (given given' left left' : ToldEvents) : Type 0 where
  pub node_kept : new ≡ old
  pub out_kept : j ≡ i
  pub given_kept : given' ≡ given
  pub left_kept : left' ≡ left

-- The acts of an event went without the keeper, which stays: so they did over any archive.
pub record ActsStill {K : Type 0} (arrival : Arrival) (old : Serving K) (i : HostState)
    (new : Serving K) (j : HostState) : Type 0 where
  pub kept : new.keep ≡ old.keep
  pub acted : (s : LastKnown) → Acted arrival (world_of s (places_in old) i) []
      (world_of s (places_in new) j)

-- A piece came to a connection, and whatever the keeper answered, that is all that changed: other
-- connections stay, this one is closed exactly where it has no session left, and the count of open
-- sessions is right. Without a session the piece is skipped.
abbrev pub CameAnyway : {K : Type 0} → Option Session → ℕ → Arrival → Serving K → HostState → Serving K
    → HostState → Type 0
CameAnyway None c arrival old i new j = ActsStill arrival old i new j
CameAnyway (Some start) c arrival old i new j =
    (s t : LastKnown) → Around c (world_of s (places_in old) i) (world_of t (places_in new) j)

-- What the acts of an event change, by what it says happened. This asks nothing of the keeper: it is so
-- where no archive is held, too, as after a file was found damaged.
abbrev pub AnywayBy : {K : Type 0} → What → Arrival → Serving K → HostState → Serving K → HostState → Type 0
AnywayBy (what.Bytes c len) arrival old i new j =
    CameAnyway ((places_in old).session c) c arrival old i new j
AnywayBy other arrival old i new j = ActsStill arrival old i new j

-- The same of an event.
abbrev pub ActsAnyway : {K : Type 0} → Arrival → Serving K → HostState → Serving K → HostState → Type 0
ActsAnyway arrival old i new j = AnywayBy arrival.0.what arrival old i new j

-- Whatever the keeper answers, the update of a session that idles changes no other connection, which is
-- closed exactly where it has no session left. One that doesn't idle is left alone.
abbrev pub AroundAt : ℕ → NodeState → NodeState → Type 0
AroundAt c w v = IfIdles (idles_if (w.session c)) (Around c w v) w v

-- So it is of the updates after an event, whatever stands. After a stop nothing changes.
abbrev pub UpdatesAnyway : Bool → OpenSessions → HostState → OpenSessions → HostState → Type 0
UpdatesAnyway true p i q j = (s : LastKnown) (disk : ℕ)
    → world_of s q (with_disk disk j) ≡ world_of s p (with_disk disk i)
UpdatesAnyway false p i q j = (s : LastKnown) (disk : ℕ) → EachBelow AroundAt connection_limit
    (world_of s p (with_disk disk i)) (world_of s q (with_disk disk j))

-- The least connection with a number from the given one on whose session idles, if there is one.
abbrev pub IsLeastIdle : OpenSessions → ℕ → Option ℕ → Type 0
IsLeastIdle p from None = (c : ℕ) → from ≤ c → c < connection_limit → idles_if (p.session c) ≡ false
IsLeastIdle p from (Some n) = (from ≤ n) × (n < connection_limit) × (idles_if (p.session n) ≡ true)
    × ((c : ℕ) → from ≤ c → c < n → idles_if (p.session c) ≡ false)

-- A node and what is outside of it, between two turns.
pub record Stage (K : Type 0) : Type 0 where
  pub node : Serving K
  pub out : HostState

-- The stage of these two parts.
abbrev pub stage : {K : Type 0} → Serving K → HostState → Stage K
stage node out = record { node = node; out = out }

-- The world at a stage, where the keeper stands so.
abbrev pub world_at : {K : Type 0} → LastKnown → Stage K → NodeState
world_at s p = world_of s (places_in p.node) p.out

-- The stage after the acts of an event, and the one after its updates.
pub record EventStages (K : Type 0) : Type 0 where
  pub acted : Stage K
  pub after : Stage K

-- The two of an event.
abbrev pub event_stages : {K : Type 0} → Stage K → Stage K → EventStages K
event_stages acted after = record { acted = acted; after = after }

-- Each of these events does this, from one stage to the next two.
abbrev pub Along : {K : Type 0} → (Arrival → Stage K → EventStages K → Type 0) → List Arrival → Stage K
    → List (EventStages K) → Stage K → Type 0
Along does [] p [] q = q ≡ p
Along does [] p (m ∷ ms) q = ⊥
Along does (e ∷ es) p [] q = ⊥
Along does (e ∷ es) p (m ∷ ms) q = does e p m × Along does es m.after ms q

-- What an event changes of a stage, whatever the keeper holds.
abbrev pub GoesAnyway : {K : Type 0} → Arrival → Stage K → EventStages K → Type 0
GoesAnyway arrival p m = ActsAnyway arrival p.node p.out m.acted.node m.acted.out
    × UpdatesAnyway (is_stop arrival.0.what) (places_in m.acted.node) m.acted.out
    (places_in m.after.node) m.after.out

-- After the acts of an event, and after its updates, the world's count of the disk's faults is that of the
-- keeper, whatever it holds.
abbrev pub GoesCounting : {K : Type 0} → (K → ℕ) → Arrival → Stage K → EventStages K → Type 0
GoesCounting faults arrival p m = (m.acted.out.disk ≡ faults m.acted.node.keep)
    × (m.after.out.disk ≡ faults m.after.node.keep)

-- The worlds of these turns are those of the stages, each with how the archive stands then.
abbrev pub AreAt : {K : Type 0} → List (EventStages K) → List Turn → Type 0
AreAt [] [] = Unit {0}
AreAt [] (t ∷ ts) = ⊥
AreAt (m ∷ ms) [] = ⊥
AreAt (m ∷ ms) (t ∷ ts) = (t.between ≡ world_at t.between.standing m.acted)
    × (t.after ≡ world_at t.after.standing m.after) × AreAt ms ts

-- What connections had taken, how often each was closed, and how many sends were lost, at a stage.
abbrev pub outputs_at : {K : Type 0} → Stage K → Outputs
outputs_at p = outputs p.out.taken p.out.closings p.out.lost

-- The same at the stage before each of these events.
abbrev pub outputs_along : {K : Type 0} → Stage K → List (EventStages K) → List Outputs
outputs_along p [] = []
outputs_along p (m ∷ ms) = outputs_at p ∷ outputs_along m.after ms

-- The same each time that a host was asked for the next event and answered: before each turn, and at
-- the last stage if it answered that none is left.
abbrev pub outputs_noted : {K : Type 0} → Bool → Stage K → List (EventStages K) → Stage K
    → List Outputs
outputs_noted true p ms q = outputs_along p ms ++ outputs_at q ∷ []
outputs_noted false p ms q = outputs_along p ms

-- How the state after each act of a session stands beside its talks, at a moment.
module _ {K : Type 0} (along : ℕ → K → SessionState SessionAtWork LastKnown → List K
    → List (SessionState SessionAtWork LastKnown) → K → Type 0) where
  -- A piece came to the session of a connection: the acts of the piece, each with the state after it.
  -- `passed` is how the archive stood after each.
  pub record PieceKept (moment c : ℕ) (start : Session) (piece : List ℕ) (old : K) (w : NodeState)
      (passed : List LastKnown) (new : K) (v : NodeState) : Type 0 where
    pub held : Option SessionAtWork
    pub rest_is : v.session c ≡ rest_if held
    pub course : SessionRun (along moment) (said moment) is_asked old new
        (talk (Some (Came start piece)) w.standing (outside_at c w.out))
        (talk held v.standing (outside_at c v.out))
    pub passed_is : passed ≡ afters (course.acts ++ talk held v.standing (outside_at c v.out) ∷ [])

  -- A piece came to a connection. Without a session the state stays.
  abbrev pub CameKept : Option Session → ℕ → ℕ → List ℕ → K → NodeState → List LastKnown → K → NodeState
      → Type 0
  CameKept None moment c piece old w passed new v = new ≡ old
  CameKept (Some start) moment c piece old w passed new v =
      PieceKept moment c start piece old w passed new v

  -- The acts of what happened. Where it is no piece the state stays.
  abbrev pub TurnKeptBy : What → ℕ → List ℕ → K → NodeState → List LastKnown → K → NodeState → Type 0
  TurnKeptBy (what.Bytes c len) moment piece old w passed new v =
      CameKept (w.session c) moment c piece old w passed new v
  TurnKeptBy other moment piece old w passed new v = new ≡ old

  -- The same of an event, with its piece.
  abbrev pub TurnKept : Arrival → K → NodeState → List LastKnown → K → NodeState → Type 0
  TurnKept arrival old w passed new v =
      TurnKeptBy arrival.0.what arrival.0.moment arrival.1 old w passed new v

module _ {K : Type 0} (g : Keeper K) where
  -- How many texts a piece reads at most at a moment at a ready keeper, by its session: no more than the
  -- requests ask for that the piece makes whole. So the archive isn't read anew before it. The keeper
  -- stays ready, unless a request at the control door may change the archive. Nothing bounds what a
  -- piece of LMTP reads, whose deliveries may each have to be reopened for.
  abbrev pub ReadsAt : ℕ → Session → List ℕ → K → K → Type 0
  ReadsAt moment (kind.Control bytes) piece old new =
      Meets (asks_for (bytes ++ piece)) (g.ready new) (g.reads old) (g.reads new)
  ReadsAt moment (kind.News reader) piece old new = (g.ready new ≡ true)
      × ReadsLines g.holds moment (reader.bytes ++ piece) old (g.reads old) (g.reads new)
  ReadsAt moment (kind.Pop client) piece old new = (g.ready new ≡ true)
      × ReadsUpTo (lines_cost line_limit line_texts (client.bytes ++ piece)) (g.reads old)
      (g.reads new)
  ReadsAt moment (kind.Http bytes) piece old new = (g.ready new ≡ true)
      × ReadsBytes g.holds (bytes ++ piece) old (g.reads old) (g.reads new)
      × ReadsNothing g.holds (bytes ++ piece) old (g.reads old) (g.reads new)
  ReadsAt moment (kind.Lmtp guest) piece old new = Unit {0}
  ReadsAt moment (kind.Imap client) piece old new = (g.ready new ≡ true)
      × ((a : Archive) → g.holds old a → SuitsClient a client.0
      → ReadsUpTo (texts_ahead a (framed_more piece client)) (g.reads old) (g.reads new))

  -- The same of a piece that came to a connection. Without a session nothing is read.
  abbrev pub ReadsCame : ℕ → Option Session → List ℕ → K → K → Type 0
  ReadsCame moment None piece old new = g.reads new ≡ g.reads old
  ReadsCame moment (Some start) piece old new =
      g.ready old ≡ true → ReadsAt moment start piece old new

  -- The same of what happened. Only a piece reads.
  abbrev pub ReadsForEvent : ℕ → What → List ℕ → Serving K → Serving K → Type 0
  ReadsForEvent moment (what.Bytes c len) piece old new =
      ReadsCame moment ((places_in old).session c) piece old.keep new.keep
  ReadsForEvent moment other piece old new = g.reads new.keep ≡ g.reads old.keep

  -- Updates leave the keeper alone, unless a session idles and the keeper has to be reopened for it.
  -- After a stop they do in any case.
  abbrev pub LeftAlone : Bool → Serving K → K → Type 0
  LeftAlone stops old new = (stops ≡ true)
      ⊎ ((any_idles (places_in old).session ≡ false) ⊎ (g.ready old.keep ≡ true)) → new ≡ old.keep

  -- The same of an event, from one stage to the next two. Where the keeper isn't ready after it, no update
  -- was given.
  abbrev pub GoesReading : Arrival → Stage K → EventStages K → Type 0
  GoesReading arrival p m =
      ReadsForEvent arrival.0.moment arrival.0.what arrival.1 p.node m.acted.node
      × LeftAlone (is_stop arrival.0.what) m.acted.node m.after.node.keep
      × (g.ready m.after.node.keep ≡ false → UpdatesAnyway true (places_in m.acted.node) m.acted.out
      (places_in m.after.node) m.after.out)

module _ {K : Type 0} (g : Keeper K) where
  -- Beside the talks of a session at a moment stands the keeper after each act.
  abbrev pub ActsAlong : ℕ → K → SessionState SessionAtWork LastKnown → List K
      → List (SessionState SessionAtWork LastKnown) → K → Type 0
  ActsAlong moment old w ks ms new =
      KeptAlong (KeeperActs g (doors_at moment)) old w ks ms new

  -- Whatever the keeper matches, it is reopened before a piece, or that is refused and the session's
  -- door says so.
  abbrev pub ReopensForPiece : ℕ → Session → K → ConnectionState → Bool → K → ConnectionState → Type 0
  ReopensForPiece moment start old i goes_on new j = answering.ReopensBy g
      (λ (s : LastKnown) (piece : List ℕ) (way : Departure). said moment s (Came start piece) way)
      (λ (piece : List ℕ). with_piece start piece) old i goes_on new j

  -- Whatever the keeper matches, a session takes a piece by a course, and the keeper matches what that
  -- leaves.
  pub record FedFrom (moment : ℕ) (start : SessionAtWork) (s : LastKnown) (old : K) (i : ConnectionState)
      (goes_on : Bool) (left : Session) (new : K) (j : ConnectionState) : Type 0 where
    pub after : LastKnown
    pub fits : MatchesKnown g new after
    pub held : Option SessionAtWork
    pub rest_is : held_if goes_on left ≡ rest_if held
    pub course : KeeperRun g (doors_at moment) old new (talk (Some start) s i) (talk held after j)

  -- The same of a session before a piece, whose archive has yet to be reopened. What the client knows
  -- suits each archive that this may find.
  abbrev pub AnswersPiece : ℕ → Session → List ℕ → K → ConnectionState → Bool → Session → K
      → ConnectionState → Type 0
  AnswersPiece moment start piece old i goes_on left new j = (s : LastKnown)
      → MatchesKnown g old s → ((a : Archive) → IsFound s a → SessionSuits a start)
      → FedFrom moment (Came start piece) s old i goes_on left new j

  -- A node took the acts of an event. After each of them the keeper matches what stands then, the world's
  -- count of the disk's faults is the keeper's, and a crash in the act leaves an archive that stood before
  -- it or after it, or one in doubt there. So a crash since the event began leaves an archive that stood
  -- before it or after one of its acts, or one in doubt there. Each act did of the keeper what it asks,
  -- and no more.
  pub record ActsTo (arrival : Arrival) (s : LastKnown) (old : Serving K) (i : HostState)
      (new : Serving K) (j : HostState) : Type 0 where
    pub after : LastKnown
    pub fits : MatchesKnown g new.keep after
    pub passed : List LastKnown
    pub acted : Acted arrival (world_of s (places_in old) i) passed (world_of after (places_in new) j)
    pub kept : TurnKept ActsAlong arrival old.keep (world_of s (places_in old) i) passed new.keep
        (world_of after (places_in new) j)
    pub passes : CrashesLeaveOnly g.leaves old.keep new.keep (s ∷ passed)

  -- What clients of a node know suits the archive that its keeper stands for, and what it notes of sessions
  -- that idle is so. Where it notes that all were told, the keeper is ready.
  pub record NodeSuits (s : LastKnown) (node : Serving K) (i : HostState) : Type 0 where
    pub clients : ClientsSuit (world_of s (places_in node) i)
    pub noted : NotedIs node.idling (world_of s (places_in node) i)
    pub ready : node.idling ≡ Told → g.ready node.keep ≡ true

  -- Whatever the node's keeper matches, this is so, if what clients know suits it.
  abbrev pub DoesActs : Arrival → Serving K → HostState → Serving K → HostState → Type 0
  DoesActs arrival old i new j = (s : LastKnown) → MatchesKnown g old.keep s
      → ClientsSuit (world_of s (places_in old) i) → ActsTo arrival s old i new j

  -- The keeper was reopened before updates, or that was refused. It changes nothing of a ready keeper; of
  -- one that isn't, it finds the archive as which the files read, unless it is refused. It adds nothing that
  -- a crash may leave. The count of faults after it is the keeper's. Exactly where the keeper is ready then,
  -- each session that idles was given its update.
  pub record KeeperReopened (old : K) (w : NodeState) (new : K) (v : NodeState) : Type 0 where
    pub moves : KeeperMoves g old w.standing new v.standing
    pub does : ReopenedAs g (reopening w.standing) old (outside None w.out.disk w.out.lost)
        (held_if (g.ready new) tt) new v.standing (outside None v.out.disk w.out.lost)
    pub disk : v.out.disk ≡ g.faults new
    pub leaves : CrashesLeaveOnly g.leaves old new []
    pub each : EachIf (g.ready new) (with_keeper v.standing v.out.disk w) v

  -- Where a session idles the keeper was reopened, and updates left it so. Else it is as it was.
  abbrev pub ReopenedIf : Bool → K → NodeState → K → NodeState → Type 0
  ReopenedIf true old w new v = KeeperReopened old w new v
  ReopenedIf false old w new v = new ≡ old

  -- The same of the updates after an event, unless it is a stop.
  abbrev pub UpdatesKept : Bool → K → NodeState → K → NodeState → Type 0
  UpdatesKept true old w new v = new ≡ old
  UpdatesKept false old w new v = ReopenedIf (any_idles w.session) old w new v

  -- A node gave the updates after an event, unless it is a stop. The keeper then matches what stands, and
  -- what the node notes of sessions that idle is so.
  pub record UpdatesTo (stops : Bool) (s : LastKnown) (old : Serving K) (i : HostState)
      (new : Serving K) (j : HostState) : Type 0 where
    pub after : LastKnown
    pub fits : MatchesKnown g new.keep after
    pub reopened : List LastKnown
    pub updated : UpdatedUnless stops (world_of s (places_in old) i) reopened
        (world_of after (places_in new) j)
    pub kept : UpdatesKept stops old.keep (world_of s (places_in old) i) new.keep
        (world_of after (places_in new) j)
    pub noted : NotedIs new.idling (world_of after (places_in new) j)
    pub ready : new.idling ≡ Told → g.ready new.keep ≡ true

  -- Whatever the node's keeper matches, this is so, if what clients know suits it.
  abbrev pub GivesUpdates : Bool → Serving K → HostState → Serving K → HostState → Type 0
  GivesUpdates stops old i new j = (s : LastKnown) → MatchesKnown g old.keep s → NodeSuits s old i
      → UpdatesTo stops s old i new j

  -- A node took an event to its end: its acts, and then the updates.
  pub record TurnsTo (arrival : Arrival) (s : LastKnown) (old : Stage K) (m : EventStages K)
      : Type 0 where
    pub acts : ActsTo arrival s old.node old.out m.acted.node m.acted.out
    pub updates : UpdatesTo (is_stop arrival.0.what) acts.after m.acted.node m.acted.out m.after.node
        m.after.out
    pub suits : NodeSuits updates.after m.after.node m.after.out

  -- Whatever the node's keeper matches, this is so, if what clients know suits it.
  abbrev pub Turns : Arrival → Stage K → EventStages K → Type 0
  Turns arrival old m = (s : LastKnown) → MatchesKnown g old.node.keep s
      → NodeSuits s old.node old.out → TurnsTo arrival s old m

  -- What `turn` does of an event: what it changes whatever the keeper holds, how much it reads, that the
  -- counts of faults are the keeper's, and what it is where the keeper matches what stands.
  pub record TurnsBy (arrival : Arrival) (old : Stage K) (m : EventStages K) : Type 0 where
    pub turns : Turns arrival old m
    pub anyway : GoesAnyway arrival old m
    pub reads_few : GoesReading g arrival old m
    pub counts : GoesCounting g.faults arrival old m

  -- A keeper went through one turn: its acts, and its updates. After each act it matches what stands then;
  -- and a crash within the turn leaves an archive that stood before it or after one of its acts, or one
  -- that was in doubt there.
  pub record StepsOnce (e : Arrival) (old : K) (w : NodeState) (m : EventStages K) (t : Turn)
      : Type 0 where
    pub acted_fits : MatchesKnown g m.acted.node.keep t.between.standing
    pub fits : MatchesKnown g m.after.node.keep t.after.standing
    pub passes : CrashesLeaveOnly g.leaves old m.acted.node.keep (w.standing ∷ t.passed)
    pub kept : TurnKept ActsAlong e old w t.passed m.acted.node.keep t.between
    pub updates : UpdatesKept (is_stop e.0.what) m.acted.node.keep t.between m.after.node.keep t.after

  -- A keeper went from one state to another by these turns, through these stages.
  abbrev pub StepsTo : List Arrival → K → NodeState → List (EventStages K) → List Turn → K → Type 0
  StepsTo [] old w [] [] new = new ≡ old
  StepsTo [] old w [] (t ∷ ts) new = ⊥
  StepsTo [] old w (m ∷ ms) ts new = ⊥
  StepsTo (e ∷ es) old w [] ts new = ⊥
  StepsTo (e ∷ es) old w (m ∷ ms) [] new = ⊥
  StepsTo (e ∷ es) old w (m ∷ ms) (t ∷ ts) new = StepsOnce e old w m t
      × StepsTo es m.after.node.keep t.after ms ts new

  -- A node took these events to their end, one after another, through these stages.
  pub record RunsTo (arrivals : List Arrival) (s : LastKnown) (old : Serving K) (i : HostState)
      (stages : List (EventStages K)) (new : Serving K) (j : HostState) : Type 0 where
    pub after : LastKnown
    pub fits : MatchesKnown g new.keep after
    pub turns : List Turn
    pub served : Served arrivals (world_of s (places_in old) i) turns (world_of after (places_in new) j)
    pub at : AreAt stages turns
    pub steps : StepsTo arrivals old.keep (world_of s (places_in old) i) stages turns new.keep
    pub suits : NodeSuits after new j
    pub passes : CrashesLeaveOnly g.leaves old.keep new.keep (s ∷ passed_in turns)
    pub crash : g.leaves old.keep new.keep (archives_of (s ∷ passed_in turns))

  -- A node served the events that a host gave, in order, each from one stage to the next. Whatever
  -- the keeper holds, an event changes nothing of other connections, but of those whose sessions idle; its
  -- acts read no more than they ask for, and updates nothing, unless the keeper has to be reopened for them;
  -- and at each stage the world's count of the disk's faults is the
  -- keeper's. The host, whose records these are, was asked before each event, when all before it had been
  -- answered, and at the end if it then answered that none is left. The events were served where the
  -- keeper matched what stood, and what clients knew suited its archives.
  pub record ServesTo (end : ServeEnd) (turns : ℕ) (old : Serving K) (i : HostState)
      (new : Serving K)
      (j : HostState) (given given' left left' : ToldEvents) (faults faults' : ℕ)
      (recorded recorded' : List Outputs → Type 0) : Type 0 where
    pub arrivals : List Arrival
    pub given_is : given' ≡ given_after given arrivals
    pub left_is : left ≡ before_all arrivals left'
    pub none : Bool
    pub ends : ServingEnds end none arrivals turns left' faults faults'
    pub stages : List (EventStages K)
    pub anyway : Along GoesAnyway arrivals (stage old i) stages (stage new j)
    pub reads_few : Along (GoesReading g) arrivals (stage old i) stages (stage new j)
    pub counts : Along (GoesCounting g.faults) arrivals (stage old i) stages (stage new j)
    pub records : (past : List Outputs) → recorded past
        → recorded' (past ++ outputs_noted none (stage old i) stages (stage new j))
    pub runs : (s : LastKnown) → MatchesKnown g old.keep s → NodeSuits s old i
        → RunsTo arrivals s old i stages new j

  -- An event was taken from the host, and to its end.
  pub record TookOne (old : Serving K) (i : HostState) (new : Serving K) (j : HostState)
      (given given' left left' : ToldEvents) (recorded recorded' : List Outputs → Type 0)
      (stops : Bool)
      : Type 0 where
    pub arrival : Arrival
    pub given_is : given' ≡ then_given given arrival
    pub left_is : left ≡ before_left arrival left'
    pub stop_is : is_stop arrival.0.what ≡ stops
    pub acted : Stage K
    pub turns : TurnsBy arrival (stage old i) (event_stages acted (stage new j))
    pub records : (past : List Outputs) → recorded past
        → recorded' (past ++ outputs_at (stage old i) ∷ [])

  -- An event was taken, which is a stop or is none; or none is left; or the host failed.
  abbrev pub TakesOne : Taken → Serving K → HostState → Serving K → HostState → ToldEvents
      → ToldEvents → ToldEvents → ToldEvents → ℕ
      → ℕ → (List Outputs → Type 0) → (List Outputs → Type 0) → Type 0
  TakesOne Went old i new j given given' left left' faults faults' recorded recorded' =
      TookOne old i new j given given' left left' recorded recorded' false
  TakesOne Stops old i new j given given' left left' faults faults' recorded recorded' =
      TookOne old i new j given given' left left' recorded recorded' true
  TakesOne Nothing old i new j given given' left left' faults faults' recorded recorded' =
      TookNone old i new j given given' left left' × NoneLeft left'
      × ((past : List Outputs) → recorded past
      → recorded' (past ++ outputs_at (stage old i) ∷ []))
  TakesOne Fault old i new j given given' left left' faults faults' recorded recorded' =
      TookNone old i new j given given' left left' × Rose faults faults'
      × ((past : List Outputs) → recorded past → recorded' past)
