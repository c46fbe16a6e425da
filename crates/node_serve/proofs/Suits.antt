-- What clients of IMAP know goes on suiting the archive, and what a node notes of sessions that idle stays right.
use Rattle.std.proofs.Common.{◌≡◌, ◌≢◌, ◌≤◌, ◌⊎◌, ◌==◌, ℕ, zero, suc, Bool, true, false, nat_lt, List, [], ◌∷◌, Option, Some, None, refl, sym, ap, subst, ◌∙◌, arith, inl, inr, if◌then◌else◌}
use Rattle.std.proofs.lemmas.Bool.{false≢true}
use Rattle.std.proofs.lemmas.Bool.Decides.{eqb_tells}
use Rattle.arch_base.specs.Moments.{last_moment}
use Rattle.edge_io.specs.Hosts.{OthersKept}
use Rattle.edge_io.specs.Scripts.{Arrival}
use Rattle.edge_io.specs.declared.events.Door.{Door}
use Rattle.edge_io.specs.declared.events.Door.TheVariants as door
use Rattle.edge_io.specs.declared.events.What.{What}
use Rattle.edge_io.specs.declared.events.What.TheVariants as what
use Rattle.line_door.specs.Acts.{ConnectionState, Said, Departure, Plain, Memory, Disk, Newer, Acts}
use Rattle.line_door.specs.Course.{SessionState, talk, Requests, Last}
use Rattle.line_door.specs.Making.{closes}
use Rattle.line_door.specs.Over.{held_over}
use Rattle.line_door.specs.Plain.{silent}
use Rattle.arch_model.specs.Archives.{Archive}
use Rattle.arch_model.specs.Delivery.{applied}
use Rattle.arch_model.specs.Laws.{KeepsValid}
use Rattle.arch_model.specs.Standing.{LastKnown}
use Rattle.arch_model.specs.Validity.{IsArchive}
use Rattle.arch_model.specs.Keeping.{MatchesKnown, Keeper}
use Rattle.arch_model.specs.declared.command.Command.{Command}
use Rattle.known_uids.specs.Staying.{CommandsKeepGone, GoneStayItself, GoneStayThrough}
use Rattle.imap_states.specs.States.{SuitsClient}
use Rattle.imap_session.specs.Door as imap
use Rattle.imap_session.specs.Door.{ImapClient}
use Rattle.imap_session.specs.Idling as idling
use Rattle.imap_session.specs.Laws.{SessionsSuit}
use Rattle.imap_session.proofs.Suiting.{act-left}
use Rattle.node_serve.specs.Doors.{SessionAtWork, Came, AtControl, AtNews, AtPop, AtHttp, AtLmtp, AtImap, said, is_asked, with_piece, rest_if, session_limit, opening_at, greets, said_making}
use Rattle.node_serve.specs.Ends.{is_stop}
use Rattle.node_serve.specs.Laws.{GoOnSuiting}
use Rattle.node_serve.specs.Nodes.{Serving, stage, event_stages, places_in, world_of, ActsAnyway, UpdatesAnyway, ReadsForEvent, LeftAlone, TurnKeptBy, ActsAlong, NodeSuits, DoesActs, GivesUpdates, TurnsBy}
use Rattle.node_serve.specs.Notes.{reads_only_if, note_through, NoteStays, NotesAfter}
use Rattle.node_serve.specs.Suiting.{SessionSuits, SessionSuitsIf, KeepsGone, ClientsSuit, NotedIs}
use Rattle.node_serve.specs.Turns.{FedAt, CameTo, ActedBy, Acted}
use Rattle.node_serve.specs.Updates.{idles, idles_if, said_update, EachBelow, IfIdles, UpdateAct, UpdateBy, UpdateAt, connection_limit, any_idles, ReopenedFor, EachIf, UpdatedIf, UpdatedUnless, IsTold, AllTold}
use Rattle.node_serve.specs.World.{HostState, NodeState, Same, outside_at, others_open}
use Rattle.node_serve.specs.declared.session.Session.{Session}
use Rattle.node_serve.specs.declared.session.Session.TheVariants as session
use Rattle.node_serve.specs.declared.updates.Idling.{Idling}
use Rattle.node_serve.specs.declared.updates.Idling.TheVariants.{Nobody, Told, Untold}
use Rattle.node_serve.proofs.ImapDoor.{later-suits, later-if}
use Rattle.node_serve.proofs.Reading.{came-stands, came-ready}
use Rattle.node_serve.proofs.Later.{acts-after, making-after, update-after, LaterIn, said-later, acts-later, reopened-later}

-- What a session at work knows suits the archive.
abbrev AtWorkSuits : Archive → SessionAtWork → Type 0
AtWorkSuits a (Came start piece) = SessionSuits a start
AtWorkSuits a (AtControl w) = Unit {0}
AtWorkSuits a (AtNews reader) = Unit {0}
AtWorkSuits a (AtPop client) = Unit {0}
AtWorkSuits a (AtHttp bytes) = Unit {0}
AtWorkSuits a (AtLmtp guest) = Unit {0}
AtWorkSuits a (AtImap client) = SuitsClient a client.0

-- The same of one that is open.
abbrev AtWorkSuitsIf : Archive → Option SessionAtWork → Type 0
AtWorkSuitsIf a None = Unit {0}
AtWorkSuitsIf a (Some h) = AtWorkSuits a h

-- The session before a piece, once the archive was reopened.
piece-suits : (a : Archive) (start : Session) (piece : List ℕ) → SessionSuits a start → AtWorkSuits a (with_piece start piece)
piece-suits a (session.Control bytes) piece suits = tt
piece-suits a (session.News reader) piece suits = tt
piece-suits a (session.Pop client) piece suits = tt
piece-suits a (session.Http bytes) piece suits = tt
piece-suits a (session.Lmtp guest) piece suits = tt
piece-suits a (session.Imap client) piece suits = suits

-- The session that is kept of one at work.
rest-suits : (a : Archive) (o : Option SessionAtWork) → AtWorkSuitsIf a o → SessionSuitsIf a (rest_if o)
rest-suits a None suits = tt
rest-suits a (Some (Came start piece)) suits = suits
rest-suits a (Some (AtControl w)) suits = tt
rest-suits a (Some (AtNews reader)) suits = tt
rest-suits a (Some (AtPop client)) suits = tt
rest-suits a (Some (AtHttp bytes)) suits = tt
rest-suits a (Some (AtLmtp guest)) suits = tt
rest-suits a (Some (AtImap client)) suits = suits

-- The session after an act of a door of which nothing is asked.
over-suits : {H : Type 0} (a : Archive) (into : H → SessionAtWork) → ((h : H) → AtWorkSuits a (into h)) → (o : Option H) (k : SessionAtWork) → held_over into o ≡ Some k → AtWorkSuits a k
over-suits a into suits None k is = absurd (cc is)
over-suits a into suits (Some h) k is = let same : into h ≡ k = cc is in subst (λ (x : SessionAtWork). AtWorkSuits a x) same (suits h)

-- A new session.
new-suits : SessionsSuit → (a : Archive) (at : Door) → IsArchive a → SessionSuits a (opening_at at).0
new-suits suit a door.Control valid = tt
new-suits suit a door.Nntp valid = tt
new-suits suit a door.Pop3 valid = tt
new-suits suit a door.Http valid = tt
new-suits suit a door.Lmtp valid = tt
new-suits suit a door.Imap valid = suit.new a valid

made-suits : SessionsSuit → (a : Archive) (at : Door) (t : Bool) (s : LastKnown) (words : List ℕ) (k : Session) → IsArchive a → (if t then greets at s else closes s words).next ≡ Some k → SessionSuits a k
made-suits suit a at true s words k valid is = let same : (opening_at at).0 ≡ k = cc is in subst (λ (x : Session). SessionSuits a x) same (new-suits suit a at valid)
made-suits suit a at false s words k valid is = absurd (cc is)

unmade-none : (t : Bool) (s : LastKnown) (words other : List ℕ) (k : Session) → (if t then closes s words else closes s other).next ≡ Some k → ⊥
unmade-none true s words other k is = absurd (cc is)
unmade-none false s words other k is = absurd (cc is)

making-suits : SessionsSuit → (a : Archive) (moment : ℕ) (at : Door) (n : ℕ) (s : LastKnown) (k : Session) (way : Departure) → IsArchive a → (said_making moment at n s way).next ≡ Some k → SessionSuits a k
making-suits suit a moment at n s k Plain valid is = made-suits suit a at (nat_lt n session_limit) s _ k valid is
making-suits suit a moment at n s k Memory valid is = absurd (unmade-none (nat_lt n session_limit) s _ _ k is)
making-suits suit a moment at n s k Disk valid is = made-suits suit a at (nat_lt n session_limit) s _ k valid is
making-suits suit a moment at n s k Newer valid is = made-suits suit a at (nat_lt n session_limit) s _ k valid is

-- The session of a connection after an act, of which what the words leave suits.
left-suits : (a : Archive) (words : Departure → Said Session LastKnown) (i : ConnectionState) (held : Option Session) (t : LastKnown) (j : ConnectionState) → ((way : Departure) (k : Session) → (words way).next ≡ Some k → SessionSuits a k) → Acts words i held t j → SessionSuitsIf a held
left-suits a words i None t j suits acts = tt
left-suits a words i (Some k) t j suits acts = let left = act-left words i k t j acts in suits left.0 k left.1

-- Where the sessions of other connections stay, all suit.
all-suit : (a : Archive) (c : ℕ) (f g : ℕ → Option Session) → OthersKept c f g → ((d : ℕ) → SessionSuitsIf a (f d)) → SessionSuitsIf a (g c) → (d : ℕ) → SessionSuitsIf a (g d)
all-suit a c f g others suits here d = by (eqb_tells d c)
  where
    by : (((d == c) ≡ true) × (d ≡ c)) ⊎ (((d == c) ≡ false) × (d ≢ c)) → SessionSuitsIf a (g d)
    by (inl same) = subst (λ (n : ℕ). SessionSuitsIf a (g n)) (sym same.1) here
    by (inr apart) = subst (λ (x : Option Session). SessionSuitsIf a x) (sym (others d apart.1)) (suits d)

module _ (gone : CommandsKeepGone) (itself : GoneStayItself) (through : GoneStayThrough) (keeps : KeepsValid) (suit : SessionsSuit) where
  -- From one valid archive to another, in which no number that is gone came back.
  abbrev Suited : Archive → Archive → Type 0
  Suited a b = IsArchive a → KeepsGone a b

  suited-itself : (a : Archive) → Suited a a
  suited-itself a valid = (itself a, valid)

  suited-command : (moment : ℕ) → moment ≤ last_moment → (a : Archive) (command : Command) → Suited a (applied a command moment).archive
  suited-command moment early a command valid = (gone a command moment valid, keeps a command moment early valid)

  -- What suited an archive suits a later one.
  work-later : (a b : Archive) (h : SessionAtWork) → KeepsGone a b → AtWorkSuits a h → AtWorkSuits b h
  work-later a b (Came start piece) later suits = later-suits a b start later suits
  work-later a b (AtControl w) later suits = tt
  work-later a b (AtNews reader) later suits = tt
  work-later a b (AtPop client) later suits = tt
  work-later a b (AtHttp bytes) later suits = tt
  work-later a b (AtLmtp guest) later suits = tt
  work-later a b (AtImap client) later suits = later-suits a b (session.Imap client) later suits

  -- What an act leaves suits the archive before it.

  imap-left : (a : Archive) (client : ImapClient) (way : Departure) (o : Option ImapClient) (k : SessionAtWork) → SuitsClient a client.0 → (imap.said a client way).next ≡ o → held_over AtImap o ≡ Some k → AtWorkSuits a k
  imap-left a client way None k suits next is = absurd (cc is)
  imap-left a client way (Some after) k suits next is = let same : AtImap after ≡ k = cc is in subst (λ (x : SessionAtWork). AtWorkSuits a x) same (suit.acts a client after way suits next)

  opened-left : (a : Archive) (h k : SessionAtWork) → AtWorkSuits a h → Some h ≡ Some k → AtWorkSuits a k
  opened-left a h k suits is = let same : h ≡ k = cc is in subst (λ (x : SessionAtWork). AtWorkSuits a x) same suits

  came-left : (moment : ℕ) (s : LastKnown) (start : Session) (piece : List ℕ) (way : Departure) (k : SessionAtWork) → SessionSuits s.archive start → (said moment s (Came start piece) way).next ≡ Some k → AtWorkSuits s.archive k
  came-left moment s start piece Plain k suits is = opened-left s.archive (with_piece start piece) k (piece-suits s.archive start piece suits) is
  came-left moment s start piece Newer k suits is = opened-left s.archive (with_piece start piece) k (piece-suits s.archive start piece suits) is
  came-left moment s start piece Memory k suits is = absurd (cc is)
  came-left moment s start piece Disk k suits is = absurd (cc is)

  work-left : (moment : ℕ) (s : LastKnown) (h k : SessionAtWork) (way : Departure) → AtWorkSuits s.archive h → (said moment s h way).next ≡ Some k → AtWorkSuits s.archive k
  work-left moment s (Came start piece) k way suits is = came-left moment s start piece way k suits is
  work-left moment s (AtControl w) k way suits is = over-suits s.archive AtControl (λ h. tt) _ k is
  work-left moment s (AtNews reader) k way suits is = over-suits s.archive AtNews (λ h. tt) _ k is
  work-left moment s (AtPop client) k way suits is = over-suits s.archive AtPop (λ h. tt) _ k is
  work-left moment s (AtHttp bytes) k way suits is = over-suits s.archive AtHttp (λ h. tt) _ k is
  work-left moment s (AtLmtp guest) k way suits is = over-suits s.archive AtLmtp (λ h. tt) _ k is
  work-left moment s (AtImap client) k way suits is = imap-left s.archive client way (imap.said s.archive client way).next k suits refl is

  -- Since an archive stood, what stands then goes on from it, and the session at work suits it.
  record TalkSuits (first : Archive) (t : SessionState SessionAtWork LastKnown) : Type 0 where
    later : KeepsGone first t.after.archive
    in_doubt : (b : Archive) → t.after.in_doubt ≡ Some b → KeepsGone t.after.archive b
    here : AtWorkSuitsIf t.after.archive t.held

  -- One act.
  step-suits : (moment : ℕ) → moment ≤ last_moment → (first : Archive) (h : SessionAtWork) (w v : SessionState SessionAtWork LastKnown) → w.held ≡ Some h → Acts (said moment w.after h) w.outside v.held v.after v.outside → TalkSuits first w → TalkSuits first v
  step-suits moment early first h w v held acts suits =
      let next : LaterIn Suited w.after.archive v.after = acts-later Suited (said moment w.after h) w.after.archive w.outside v.held v.after v.outside (λ way. said-later Suited suited-itself moment (suited-command moment early) w.after h way (λ b is valid. suits.in_doubt b is)) acts in
      let now : KeepsGone w.after.archive v.after.archive = next.archive suits.later.1 in
      let before : AtWorkSuits w.after.archive h = subst (λ (o : Option SessionAtWork). AtWorkSuitsIf w.after.archive o) held suits.here in
      record {
        later = (through first w.after.archive v.after.archive suits.later.0 now.0, now.1);
        in_doubt = λ b is. next.in_doubt b is now.1;
        here = left v.held before now acts;
      }
    where
      left : (o : Option SessionAtWork) → AtWorkSuits w.after.archive h → KeepsGone w.after.archive v.after.archive → Acts (said moment w.after h) w.outside o v.after v.outside → AtWorkSuitsIf v.after.archive o
      left None before now done = tt
      left (Some k) before now done =
          let kept = act-left (said moment w.after h) w.outside k v.after v.outside done in
          work-later w.after.archive v.after.archive k now (work-left moment w.after h k kept.0 before kept.1)

  -- The requests of a piece.
  requests-suit : (moment : ℕ) → moment ≤ last_moment → (first : Archive) (w : SessionState SessionAtWork LastKnown) (acts : List (SessionState SessionAtWork LastKnown)) (m : SessionState SessionAtWork LastKnown) → Requests (said moment) is_asked w acts m → TalkSuits first w → TalkSuits first m
  requests-suit moment early first w [] m same suits = subst (λ (t : SessionState SessionAtWork LastKnown). TalkSuits first t) (sym same) suits
  requests-suit moment early first w (x ∷ xs) m each suits =
      let step = each.0.2 in
      requests-suit moment early first x xs m each.1 (step-suits moment early first each.0.0 w x step.held step.acts suits)

  last-suits : (moment : ℕ) → moment ≤ last_moment → (first : Archive) (m v : SessionState SessionAtWork LastKnown) → Last (said moment) is_asked m v → TalkSuits first m → TalkSuits first v
  last-suits moment early first m v last suits = step-suits moment early first last.before m v last.step.held last.step.acts suits

  -- A piece.
  fed-suits : (moment : ℕ) → moment ≤ last_moment → (c : ℕ) (start : Session) (piece : List ℕ) (w : NodeState) (passed : List LastKnown) (v : NodeState) → SessionSuits w.standing.archive start → FedAt moment c start piece w passed v → ClientsSuit w → ClientsSuit v
  fed-suits moment early c start piece w passed v own fed suits =
      let first : TalkSuits w.standing.archive (talk (Some (Came start piece)) w.standing (outside_at c w.out)) = record { later = (itself w.standing.archive, suits.valid); in_doubt = suits.in_doubt; here = own } in
      let before = requests-suit moment early w.standing.archive _ fed.acts fed.before fed.each first in
      let done = last-suits moment early w.standing.archive fed.before (talk fed.held v.standing (outside_at c v.out)) fed.last before in
      record {
        valid = done.later.1;
        clients = all-suit v.standing.archive c w.session v.session fed.around.sessions (λ d. later-if w.standing.archive v.standing.archive (w.session d) done.later (suits.clients d))
            (subst (λ (x : Option Session). SessionSuitsIf v.standing.archive x) (sym fed.rest_is) (rest-suits v.standing.archive fed.held done.here));
        in_doubt = done.in_doubt;
      }

  -- Nothing changed of the archive, and of the sessions at most that of one connection, which suits.
  kept-suits : (c : ℕ) (w v : NodeState) → v.standing ≡ w.standing → OthersKept c w.session v.session → SessionSuitsIf w.standing.archive (v.session c) → ClientsSuit w → ClientsSuit v
  kept-suits c w v same others here suits = record {
    valid = subst (λ (s : LastKnown). IsArchive s.archive) (sym same) suits.valid;
    clients = λ d. subst (λ (s : LastKnown). SessionSuitsIf s.archive (v.session d)) (sym same) (all-suit w.standing.archive c w.session v.session others suits.clients here d);
    in_doubt = subst (λ (s : LastKnown). (b : Archive) → s.in_doubt ≡ Some b → KeepsGone s.archive b) (sym same) suits.in_doubt;
  }

  same-suits : (w v : NodeState) → Same w v → ClientsSuit w → ClientsSuit v
  same-suits w v same suits = kept-suits 0 w v same.standing (λ d apart. same.sessions d) (subst (λ (x : Option Session). SessionSuitsIf w.standing.archive x) (sym (same.sessions 0)) (suits.clients 0)) suits

  -- The acts of an event.
  acted-suits : (e : Arrival) (w : NodeState) (passed : List LastKnown) (v : NodeState) → e.0.moment ≤ last_moment → Acted e w passed v → ClientsSuit w → ClientsSuit v
  acted-suits e w passed v early acted suits = by e.0.what acted
    where
      fed : (c : ℕ) (start : Option Session) → SessionSuitsIf w.standing.archive start → CameTo start e.0.moment c e.1 w passed v → ClientsSuit v
      fed c None own came = same-suits w v came.0 suits
      fed c (Some start) own came = fed-suits e.0.moment early c start e.1 w passed v own came suits

      by : (x : What) → ActedBy x e.0.moment e.1 w passed v → ClientsSuit v
      by (what.Opened c at) t =
          kept-suits c w v (acts-after _ w.standing _ _ v.standing _ (λ way. making-after e.0.moment at (others_open c w) w.standing way) t.0.acts) t.0.around.sessions
          (left-suits w.standing.archive (said_making e.0.moment at (others_open c w) w.standing) _ (v.session c) v.standing _ (λ way k is. making-suits suit w.standing.archive e.0.moment at (others_open c w) w.standing k way suits.valid is) t.0.acts) suits
      by (what.Bytes c len) t = fed c (w.session c) (suits.clients c) t
      by (what.Ended c) t = kept-suits c w v t.0.standing t.0.sessions (subst (λ (x : Option Session). SessionSuitsIf w.standing.archive x) (sym t.0.gone) tt) suits
      by what.Quiet t = same-suits w v t.0 suits
      by what.Stop t = same-suits w v t.0 suits

  -- What an update leaves.

  silent-left : (s : LastKnown) (start k : Session) → SessionSuits s.archive start → (silent s start).next ≡ Some k → SessionSuits s.archive k
  silent-left s start k suits is = let same : start ≡ k = cc is in subst (λ (x : Session). SessionSuits s.archive x) same suits

  told-left : (a : Archive) (client : ImapClient) (way : Departure) (o : Option ImapClient) (k : Session) → SuitsClient a client.0 → (idling.said_update a client way).next ≡ o → held_over session.Imap o ≡ Some k → SessionSuits a k
  told-left a client way None k suits next is = absurd (cc is)
  told-left a client way (Some after) k suits next is = let same : session.Imap after ≡ k = cc is in subst (λ (x : Session). SessionSuits a x) same (suit.updates a client after way suits next)

  update-left : (s : LastKnown) (start k : Session) (way : Departure) → SessionSuits s.archive start → (said_update s start way).next ≡ Some k → SessionSuits s.archive k
  update-left s (session.Control bytes) k way suits is = silent-left s (session.Control bytes) k suits is
  update-left s (session.News reader) k way suits is = silent-left s (session.News reader) k suits is
  update-left s (session.Pop client) k way suits is = silent-left s (session.Pop client) k suits is
  update-left s (session.Http bytes) k way suits is = silent-left s (session.Http bytes) k suits is
  update-left s (session.Lmtp guest) k way suits is = silent-left s (session.Lmtp guest) k suits is
  update-left s (session.Imap client) k way suits is = told-left s.archive client way (idling.said_update s.archive client way).next k suits refl is

  -- One update.
  update-suits : (c : ℕ) (w v : NodeState) (o : Option Session) → SessionSuitsIf w.standing.archive o → UpdateBy o c w v → ClientsSuit w → ClientsSuit v
  update-suits c w v None own same suits = subst ClientsSuit (sym same) suits
  update-suits c w v (Some start) own updated suits = by (idles start) updated
    where
      by : (t : Bool) → IfIdles t (UpdateAct start c w v) w v → ClientsSuit v
      by true act =
          kept-suits c w v (acts-after (said_update w.standing start) w.standing _ _ v.standing _ (λ way. update-after w.standing start way) act.0.acts) act.0.around.sessions
          (left-suits w.standing.archive (said_update w.standing start) _ (v.session c) v.standing _ (λ way k is. update-left w.standing start k way own is) act.0.acts) suits
      by false same = subst ClientsSuit (sym same) suits

  each-suits : (n : ℕ) (w v : NodeState) → EachBelow UpdateAt n w v → ClientsSuit w → ClientsSuit v
  each-suits zero w v same suits = subst ClientsSuit (sym same) suits
  each-suits (suc n) w v each suits =
      let before = each-suits n w each.0 each.1 suits in
      update-suits n each.0 v (each.0.session n) (before.clients n) each.2 before

  -- The reopening before them.
  reopened-suits : (opened : Bool) (w v : NodeState) → ReopenedFor opened w v → ClientsSuit w → ClientsSuit v
  reopened-suits opened w v reopens suits =
      let next : LaterIn Suited w.standing.archive v.standing = reopened-later Suited suited-itself 0 (suited-command 0 (let early : 0 ≤ last_moment = omega arith in early)) opened w v reopens (λ b is valid. suits.in_doubt b is) in
      let now : KeepsGone w.standing.archive v.standing.archive = next.archive suits.valid in
      let sessions : v.session ≡ w.session = ap (λ (x : NodeState). x.session) reopens.world_is in
      record {
        valid = now.1;
        clients = λ d. later-if w.standing.archive v.standing.archive (v.session d) now (subst (λ (f : ℕ → Option Session). SessionSuitsIf w.standing.archive (f d)) (sym sessions) (suits.clients d));
        in_doubt = λ b is. next.in_doubt b is now.1;
      }

  open-suits : (opened : Bool) (w v : NodeState) → EachIf opened w v → ClientsSuit w → ClientsSuit v
  open-suits true w v each suits = each-suits connection_limit w v each suits
  open-suits false w v same suits = subst ClientsSuit (sym same) suits

  -- All updates.
  through-suits : (idle : Bool) (w : NodeState) (reopened : List LastKnown) (v : NodeState) → UpdatedIf idle w reopened v → ClientsSuit w → ClientsSuit v
  through-suits true w reopened v updated suits = open-suits updated.opened updated.refreshed v updated.each (reopened-suits updated.opened w updated.refreshed updated.reopening_is suits)
  through-suits false w reopened v updated suits = subst ClientsSuit (sym updated.0) suits

  updated-suits : (stops : Bool) (w : NodeState) (reopened : List LastKnown) (v : NodeState) → UpdatedUnless stops w reopened v → ClientsSuit w → ClientsSuit v
  updated-suits true w reopened v updated suits = subst ClientsSuit (sym updated.0) suits
  updated-suits false w reopened v updated suits = through-suits (any_idles w.session) w reopened v updated suits

  pub go_on_suiting : GoOnSuiting
  go_on_suiting = record { acts = acted-suits; updates = updated-suits }

-- What is noted of sessions that idle.

-- A session stays, or doesn't idle.
abbrev StaysOrWakes : NodeState → NodeState → ℕ → Type 0
StaysOrWakes w v d = (v.session d ≡ w.session d) ⊎ (idles_if (v.session d) ≡ false)

-- Of others than the one of a connection, which doesn't idle.
others-stay : (c : ℕ) (w v : NodeState) → OthersKept c w.session v.session → idles_if (v.session c) ≡ false → (d : ℕ) → StaysOrWakes w v d
others-stay c w v others awake d = by (eqb_tells d c)
  where
    by : (((d == c) ≡ true) × (d ≡ c)) ⊎ (((d == c) ≡ false) × (d ≢ c)) → StaysOrWakes w v d
    by (inl same) = inr (ap (λ (n : ℕ). idles_if (v.session n)) same.1 ∙ awake)
    by (inr apart) = inl (others d apart.1)

nobody-stays : (w v : NodeState) → ((d : ℕ) → StaysOrWakes w v d) → NotedIs Nobody w → NotedIs Nobody v
nobody-stays w v stays noted = λ d less. by d (stays d) (noted d less)
  where
    by : (d : ℕ) → StaysOrWakes w v d → idles_if (w.session d) ≡ false → idles_if (v.session d) ≡ false
    by d (inl same) awake = ap idles_if same ∙ awake
    by d (inr now) awake = now

told-stays : (w v : NodeState) → v.standing ≡ w.standing → ((d : ℕ) → StaysOrWakes w v d) → AllTold w → AllTold v
told-stays w v same stays told = λ d less. by d (stays d) (told d less)
  where
    awake : (o : Option Session) (start : Session) → idles_if o ≡ false → o ≡ Some start → idles start ≡ true → ⊥
    awake o start none held idle = false≢true (sym none ∙ ap idles_if held ∙ idle)

    by : (d : ℕ) → StaysOrWakes w v d → IsTold w.standing (w.session d) → IsTold v.standing (v.session d)
    by d (inl kept) is = λ start held idle. subst (λ (s : LastKnown). said_update s start Plain ≡ silent s start) (sym same) (is start (sym kept ∙ held) idle)
    by d (inr now) is = λ start held idle. absurd (awake (v.session d) start now held idle)

-- A note stays right where what stands does.
noted-stays : (noted : Idling) (w v : NodeState) → v.standing ≡ w.standing → ((d : ℕ) → StaysOrWakes w v d) → NotedIs noted w → NotedIs noted v
noted-stays Nobody w v same stays is = nobody-stays w v stays is
noted-stays Told w v same stays is = (told-stays w v same stays is.0, subst (λ (s : LastKnown). s.in_doubt ≡ None) (sym same) is.1)
noted-stays Untold w v same stays is = tt

noted-same : (before after : Idling) (v : NodeState) → after ≡ before → NotedIs before v → NotedIs after v
noted-same before after v is noted = subst (λ (n : Idling). NotedIs n v) (sym is) noted

-- A note after an act on a connection.
noted-one : (c : ℕ) (before after : Idling) (w v : NodeState) → v.standing ≡ w.standing → OthersKept c w.session v.session → NoteStays before (v.session c) after → NotedIs before w → NotedIs after v
noted-one c before after w v same others (inl kept) noted = noted-same before after v kept.0 (noted-stays before w v same (others-stay c w v others kept.1) noted)
noted-one c before after w v same others (inr untold) noted = noted-same Untold after v untold tt

-- A note after a piece, which leaves what stands if its door only reads and all were told.
noted-piece : (c : ℕ) (reads : Bool) (before after : Idling) (w v : NodeState) → (before ≡ Told → reads ≡ true → v.standing ≡ w.standing) → OthersKept c w.session v.session → NoteStays (note_through before reads) (v.session c) after → NotedIs before w → NotedIs after v
noted-piece c reads before after w v same others (inr untold) noted = noted-same Untold after v untold tt
noted-piece c reads Nobody after w v same others (inl kept) noted = noted-same Nobody after v kept.0 (nobody-stays w v (others-stay c w v others kept.1) noted)
noted-piece c true Told after w v same others (inl kept) noted = noted-same Told after v kept.0 (noted-stays Told w v (same refl refl) (others-stay c w v others kept.1) noted)
noted-piece c false Told after w v same others (inl kept) noted = noted-same Untold after v kept.0 tt
noted-piece c reads Untold after w v same others (inl kept) noted = noted-same Untold after v kept.0 tt

-- Where a note says after a piece that all were told, it said so before, and its door only reads.
still-told : (reads : Bool) (before after : Idling) (held : Option Session) (P : Type 0) → NoteStays (note_through before reads) held after → after ≡ Told → (before ≡ Told → reads ≡ true → P) → P
still-told reads before after held P (inr untold) told holds = absurd (let never : Untold ≡ Told = sym untold ∙ told in cc never)
still-told reads Nobody after held P (inl kept) told holds = absurd (let never : Nobody ≡ Told = sym kept.0 ∙ told in cc never)
still-told true Told after held P (inl kept) told holds = holds refl refl
still-told false Told after held P (inl kept) told holds = absurd (let never : Untold ≡ Told = sym kept.0 ∙ told in cc never)
still-told reads Untold after held P (inl kept) told holds = absurd (let never : Untold ≡ Told = sym kept.0 ∙ told in cc never)

-- What a piece leaves of the sessions of others.
came-others : (o : Option Session) (moment c : ℕ) (piece : List ℕ) (w : NodeState) (passed : List LastKnown) (v : NodeState) → CameTo o moment c piece w passed v → OthersKept c w.session v.session
came-others None moment c piece w passed v came = λ d apart. came.0.sessions d
came-others (Some start) moment c piece w passed v came = came.around.sessions

-- Turns.
module _ {K : Type 0} (g : Keeper K) where
  -- Where it is noted that all were told, the keeper is ready, as it was before.

  ready-kept : (before after : Idling) (old new : K) → after ≡ before → new ≡ old → (before ≡ Told → g.ready old ≡ true) → after ≡ Told → g.ready new ≡ true
  ready-kept before after old new same kept ready told = ap g.ready kept ∙ ready (sym same ∙ told)

  ready-one : (before after : Idling) (held : Option Session) (old new : K) → NoteStays before held after → new ≡ old → (before ≡ Told → g.ready old ≡ true) → after ≡ Told → g.ready new ≡ true
  ready-one before after held old new (inl same) kept ready told = ready-kept before after old new same.0 kept ready told
  ready-one before after held old new (inr untold) kept ready told = absurd (let never : Untold ≡ Told = sym untold ∙ told in cc never)

  -- The acts of an event, from one node to the next.
  module _ (moment : ℕ) (piece : List ℕ) (old new : Serving K) (s : LastKnown) (i : HostState) (passed : List LastKnown) (t : LastKnown) (j : HostState) where
    -- A note after them.
    noted-after : (happened : What) → ActedBy happened moment piece (world_of s (places_in old) i) passed (world_of t (places_in new) j) → TurnKeptBy (ActsAlong g) happened moment piece old.keep (world_of s (places_in old) i) passed new.keep (world_of t (places_in new) j) → MatchesKnown g old.keep s → NodeSuits g s old i → NotesAfter happened old new → NotedIs new.idling (world_of t (places_in new) j)
    noted-after (what.Opened c at) acted kept fits suits notes =
        noted-one c old.idling new.idling (world_of s (places_in old) i) (world_of t (places_in new) j) (acts-after _ s _ _ t _ (λ way. making-after moment at (others_open c (world_of s (places_in old) i)) s way) acted.0.acts) acted.0.around.sessions notes suits.noted
    noted-after (what.Bytes c len) acted kept fits suits notes =
        let w = world_of s (places_in old) i in
        let v = world_of t (places_in new) j in
        noted-piece c (reads_only_if (w.session c)) old.idling new.idling w v
        (λ told reads. came-stands g moment c piece old.keep new.keep w v passed (w.session c) reads (suits.ready told) (fits.settled (suits.ready told)).1 acted kept) (came-others (w.session c) moment c piece w passed v acted) notes suits.noted
    noted-after (what.Ended c) acted kept fits suits notes = noted-one c old.idling new.idling (world_of s (places_in old) i) (world_of t (places_in new) j) acted.0.standing acted.0.sessions notes suits.noted
    noted-after what.Quiet acted kept fits suits notes = noted-same old.idling new.idling (world_of t (places_in new) j) notes (noted-stays old.idling (world_of s (places_in old) i) (world_of t (places_in new) j) acted.0.standing (λ d. inl (acted.0.sessions d)) suits.noted)
    noted-after what.Stop acted kept fits suits notes = noted-same old.idling new.idling (world_of t (places_in new) j) notes (noted-stays old.idling (world_of s (places_in old) i) (world_of t (places_in new) j) acted.0.standing (λ d. inl (acted.0.sessions d)) suits.noted)

    -- The keeper after them.
    ready-after : (happened : What) → ReadsForEvent g moment happened piece old new → TurnKeptBy (ActsAlong g) happened moment piece old.keep (world_of s (places_in old) i) passed new.keep (world_of t (places_in new) j) → NotesAfter happened old new → (old.idling ≡ Told → g.ready old.keep ≡ true) → new.idling ≡ Told → g.ready new.keep ≡ true
    ready-after (what.Opened c at) reads kept notes ready told = ready-one old.idling new.idling ((places_in new).session c) old.keep new.keep notes kept ready told
    ready-after (what.Bytes c len) reads kept notes ready told =
        let here = (places_in old).session c in
        still-told (reads_only_if here) old.idling new.idling ((places_in new).session c) (g.ready new.keep ≡ true) notes told
        (λ was only. came-ready g moment c piece old.keep new.keep (world_of s (places_in old) i) (world_of t (places_in new) j) passed here only (ready was) reads kept)
    ready-after (what.Ended c) reads kept notes ready told = ready-one old.idling new.idling ((places_in new).session c) old.keep new.keep notes kept ready told
    ready-after what.Quiet reads kept notes ready told = ready-kept old.idling new.idling old.keep new.keep notes kept ready told
    ready-after what.Stop reads kept notes ready told = ready-kept old.idling new.idling old.keep new.keep notes kept ready told

  -- An event is its acts, and then its updates.
  pub turns-by : GoOnSuiting → (arrival : Arrival) (old mid new : Serving K) (i m j : HostState) → arrival.0.moment ≤ last_moment → DoesActs g arrival old i mid m → ActsAnyway arrival old i mid m → ReadsForEvent g arrival.0.moment arrival.0.what arrival.1 old mid
      → NotesAfter arrival.0.what old mid → GivesUpdates g (is_stop arrival.0.what) mid m new j → UpdatesAnyway (is_stop arrival.0.what) (places_in mid) m (places_in new) j → LeftAlone g (is_stop arrival.0.what) mid new.keep → (g.ready new.keep ≡ false → UpdatesAnyway true (places_in mid) m (places_in new) j) → m.disk ≡ g.faults mid.keep → j.disk ≡ g.faults new.keep
      → TurnsBy g arrival (stage old i) (event_stages (stage mid m) (stage new j))
  turns-by goes_on arrival old mid new i m j early does anyway reads notes gives updates_anyway alone shut counted counted_after = record {
    turns = λ s fits suits.
        let acts = does s fits suits.clients in
        let between : NodeSuits g acts.after mid m = record {
          clients = goes_on.acts arrival (world_of s (places_in old) i) acts.passed (world_of acts.after (places_in mid) m) early acts.acted suits.clients;
          noted = noted-after arrival.0.moment arrival.1 old mid s i acts.passed acts.after m arrival.0.what acts.acted acts.kept fits suits notes;
          ready = ready-after arrival.0.moment arrival.1 old mid s i acts.passed acts.after m arrival.0.what reads acts.kept notes suits.ready;
        } in
        let updated = gives acts.after acts.fits between in
        record {
          acts = acts;
          updates = updated;
          suits = record {
            clients = goes_on.updates (is_stop arrival.0.what) (world_of acts.after (places_in mid) m) updated.reopened (world_of updated.after (places_in new) j) updated.updated between.clients;
            noted = updated.noted;
            ready = updated.ready;
          };
        };
    anyway = (anyway, updates_anyway);
    reads_few = (reads, alone, shut);
    counts = (counted, counted_after);
  }
