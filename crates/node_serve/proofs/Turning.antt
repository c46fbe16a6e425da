-- What one event makes of a world.
use Rattle.std.proofs.Common.{◌≡◌, ◌≤◌, ◌<◌, ◌+◌, ℕ, Bool, true, false, nat_lt, List, [], ◌∷◌, ◌++◌, Option, Some, None, Result, refl, sym, ap, subst, ◌∙◌, arith, inl, inr, if◌then◌else◌}
use Rattle.std.proofs.lemmas.Bool.{false≢true}
use Rattle.std.proofs.lemmas.Bool.Decides.{nat_tests}
use Rattle.edge_io.specs.Hosts.{OthersKept, one_more, closed_with}
use Rattle.edge_io.specs.Phrases.{Says}
use Rattle.edge_io.specs.declared.sink.SinkFault.{SinkFault}
use Rattle.edge_io.specs.Scripts.{Arrival}
use Rattle.edge_io.specs.declared.events.Door.{Door}
use Rattle.edge_io.specs.declared.events.What.TheVariants as what
use Rattle.line_door.specs.Acts.{ConnectionState, Said, Departure, Plain, Memory, Disk, Newer, SaidWhole, SaidLost, SaidShort, StopsShort, Sent, Acts, held_if}
use Rattle.line_door.specs.Course.{talk}
use Rattle.line_door.specs.Making.{says, closes}
use Rattle.line_door.specs.Over.{held_over, said_over}
use Rattle.line_door.proofs.Acting.{acts-closing, acts-silent}
use Rattle.line_door.proofs.Lifting.{acts-over}
use Rattle.arch_model.specs.Standing.{LastKnown}
use Rattle.arch_model.specs.Keeping.{CrashesLeaveOnly, MatchesKnown, Keeper}
use Rattle.keep_course.specs.Courses.{afters}
use Rattle.keep_course.proofs.Courses.{kept-left}
use Rattle.node_serve.specs.Doors.{Came, doors_at, session_limit, busy_words, memory_words, opening_at, greets, made, unmade, said_making}
use Rattle.node_serve.specs.Nodes.{OpenSessions, serving, session_of, places_of, world_of, Refused, MakesSession, SessionEnds, GotSession, IsPut, PieceKept, CameKept, TurnKept, ActsAlong, FedFrom, ActsTo, ActsStill, CameAnyway}
use Rattle.node_serve.specs.Turns.{FedAt, CameTo, Acted}
use Rattle.edge_io.specs.declared.host.Host.{Ghosts as Host}
use Rattle.node_serve.specs.World.{HostState, at_host, Around, Same, EndedAt, others_open, outside_at, one_if, closed_if, closed_at_if}
use Rattle.node_serve.specs.declared.session.Session.{Session}
use Rattle.node_serve.specs.declared.updates.Idling.{Idling}

-- How many others are open, where a connection has no session.
others-none : (c : ℕ) (s : LastKnown) (p : OpenSessions) (o : HostState) → p.session c ≡ None → others_open c (world_of s p o) ≡ p.count
others-none c s p o none = let zero : one_if (p.session c) ≡ 0 = ap (λ (x : Option Session). one_if x) none in omega (arith, zero)

-- The making of a session, by how many others are open.

made-few : (moment : ℕ) (at : Door) (n : ℕ) (s : LastKnown) → n < session_limit → made moment at n s ≡ greets at s
made-few moment at n s few = let test : nat_lt n session_limit ≡ true = grind (arith, nat_tests, few) in ap (λ (t : Bool). if t then greets at s else closes s (busy_words moment at)) test

made-busy : (moment : ℕ) (at : Door) (n : ℕ) (s : LastKnown) → session_limit ≤ n → made moment at n s ≡ closes s (busy_words moment at)
made-busy moment at n s full = let test : nat_lt n session_limit ≡ false = grind (arith, nat_tests, full) in ap (λ (t : Bool). if t then greets at s else closes s (busy_words moment at)) test

unmade-few : (moment : ℕ) (at : Door) (n : ℕ) (s : LastKnown) → n < session_limit → unmade moment at n s ≡ closes s (memory_words moment at)
unmade-few moment at n s few = let test : nat_lt n session_limit ≡ true = grind (arith, nat_tests, few) in ap (λ (t : Bool). if t then closes s (memory_words moment at) else closes s (busy_words moment at)) test

-- All around a connection that was refused.
around-refused : (c : ℕ) (words : List ℕ) (s : LastKnown) (p : OpenSessions) (i j : HostState) → p.session c ≡ None → Refused c words i j → Around c (world_of s p i) (world_of s p j)
around-refused c words s p i j none refused = record {
  sessions = λ d other. refl;
  taken = refused.taken;
  closings = refused.closings;
  closed = refused.closed ∙ sym (ap (λ (x : Option Session). closed_if x (i.closings c)) none);
  count = refl;
  closed_at = refused.closed_at ∙ sym (ap (λ (x : Option Session). closed_at_if x (j.taken c) (i.closed_at c)) none);
  closed_at_others = refused.closed_at_others;
}

-- A connection was closed after the last of its words was taken.
closed-last : (c : ℕ) (i j k : HostState) → ((d : ℕ) → j.closed_at d ≡ i.closed_at d) → ((d : ℕ) → k.taken d ≡ j.taken d) → k.closed_at c ≡ closed_with (j.taken c) (j.closed_at c) → k.closed_at c ≡ closed_with (k.taken c) (i.closed_at c)
closed-last c i j k kept same closed = closed ∙ ap (λ (t : Option (List ℕ)). closed_with t (j.closed_at c)) (sym (same c)) ∙ ap (λ (t : Option (List ℕ)). closed_with (k.taken c) t) (kept c)

-- Words were written, and then the connection was closed.
pub refused-closed : (c : ℕ) (words : List ℕ) (sent : Result Unit SinkFault) (i j k : HostState) → Says words (i.taken c) i.lost (j.taken c) j.lost sent → OthersKept c i.taken j.taken → ((d : ℕ) → j.closings d ≡ i.closings d) → ((d : ℕ) → k.taken d ≡ j.taken d) → OthersKept c j.closings k.closings
    → k.closings c ≡ one_more (j.closings c) → k.lost ≡ j.lost → k.disk ≡ i.disk → ((d : ℕ) → j.closed_at d ≡ i.closed_at d) → OthersKept c j.closed_at k.closed_at → k.closed_at c ≡ closed_with (j.taken c) (j.closed_at c) → Refused c words i k
refused-closed c words sent i j k said taken closings same others closed lost disk at_kept at_others at_closed = record {
  sent = sent;
  said = subst (λ (t : Option (List ℕ)). Says words (i.taken c) i.lost t k.lost sent) (sym (same c)) (subst (λ (n : ℕ). Says words (i.taken c) i.lost (j.taken c) n sent) (sym lost) said);
  taken = λ d other. same d ∙ taken d other;
  closings = λ d other. others d other ∙ closings d;
  closed = closed ∙ ap one_more (closings c);
  disk = disk;
  closed_at = closed-last c i j k at_kept same at_closed;
  closed_at_others = λ d other. at_others d other ∙ at_kept d;
}

-- The acts of a refusal are those of the making.
refusing : (moment : ℕ) (at : Door) (words : List ℕ) (c : ℕ) (p : OpenSessions) (i j : HostState) → p.session c ≡ None → Refused c words i j → ((s : LastKnown) → Acts (said_making moment at p.count s) (outside_at c i) None s (outside_at c j)) → MakesSession moment at c p i p j
refusing moment at words c p i j none refused acts = λ s. record {
  acts = subst (λ (n : ℕ). Acts (said_making moment at n s) (outside_at c i) (p.session c) s (outside_at c j)) (sym (others-none c s p i none))
      (subst (λ (x : Option Session). Acts (said_making moment at p.count s) (outside_at c i) x s (outside_at c j)) (sym none) (acts s));
  around = around-refused c words s p i j none refused;
}

-- A server that is full refuses.
pub makes-busy : (moment : ℕ) (at : Door) (c : ℕ) (p : OpenSessions) (i j : HostState) → p.session c ≡ None → session_limit ≤ p.count → Refused c (busy_words moment at) i j → MakesSession moment at c p i p j
makes-busy moment at c p i j none full refused = refusing moment at (busy_words moment at) c p i j none refused (λ s.
    acts-closing (said_making moment at p.count s) Plain (closes s (busy_words moment at)) (outside_at c i) (outside_at c j) s refused.sent (made-busy moment at p.count s full) refl refused.disk (omega (arith, refused.disk)) refused.said refl)

-- So does one without memory.
pub makes-starved : (moment : ℕ) (at : Door) (c : ℕ) (p : OpenSessions) (i j : HostState) → p.session c ≡ None → p.count < session_limit → Refused c (memory_words moment at) i j → MakesSession moment at c p i p j
makes-starved moment at c p i j none few refused = refusing moment at (memory_words moment at) c p i j none refused (λ s.
    acts-closing (said_making moment at p.count s) Memory (closes s (memory_words moment at)) (outside_at c i) (outside_at c j) s refused.sent (unmade-few moment at p.count s few) refl refused.disk (omega (arith, refused.disk)) refused.said refl)

-- All around a connection that got a session.
around-placed : (c : ℕ) (start : Session) (s : LastKnown) (p q : OpenSessions) (i j : HostState) → p.session c ≡ None → q.session c ≡ Some start → OthersKept c p.session q.session → q.count ≡ p.count + 1 → OthersKept c i.taken j.taken → ((d : ℕ) → j.closings d ≡ i.closings d) → ((d : ℕ) → j.closed_at d ≡ i.closed_at d)
    → Around c (world_of s p i) (world_of s q j)
around-placed c start s p q i j none some others count taken closings at_kept =
    let zero : one_if (p.session c) ≡ 0 = ap (λ (x : Option Session). one_if x) none in
    let one : one_if (q.session c) ≡ 1 = ap (λ (x : Option Session). one_if x) some in
    record {
      sessions = others;
      taken = taken;
      closings = λ d other. closings d;
      closed = closings c ∙ sym (ap (λ (x : Option Session). closed_if x (i.closings c)) some);
      count = omega (arith, count, zero, one);
      closed_at = at_kept c ∙ sym (ap (λ (x : Option Session). closed_at_if x (j.taken c) (i.closed_at c)) some);
      closed_at_others = λ d other. at_kept d;
    }

-- An act that says the same in each way is one by the rules, where the disk's count stayed.
acts-any : {H A : Type 0} (words other : Departure → Said H A) (x : Said H A) (i : ConnectionState) (held : Option H) (a : A) (j : ConnectionState) → ((way : Departure) → words way ≡ x) → x.streamed ≡ false → other Plain ≡ x → j.disk ≡ i.disk → Acts words i held a j → Acts other i held a j
acts-any {H} {A} words other x i held a j same whole plain kept acts = record { way = Plain; cause = kept; disk_later = acts.disk_later; lost_later = acts.lost_later; sent = by acts.way acts.sent }
  where
    short : SaidShort (words Plain) i held a j → ⊥
    short s = false≢true (sym whole ∙ ap (λ (y : Said H A). y.streamed) (sym (same Plain)) ∙ s.streamed)

    stops : (way : Departure) → StopsShort words way i held a j → ⊥
    stops Plain never = never
    stops Memory s = short s
    stops Disk s = short s
    stops Newer never = never

    by : (way : Departure) → Sent words way i held a j → Sent other Plain i held a j
    by way (inl s) = inl (subst (λ (y : Said H A). SaidWhole y i held a j) (same way ∙ sym plain) s)
    by way (inr (inl s)) = inr (inl (subst (λ (y : Said H A). SaidLost y i held a j) (same way ∙ sym plain) s))
    by way (inr (inr s)) = absurd (stops way s)

-- The greeting of a door is the making of its session.
greeting-made : (moment n : ℕ) (at : Door) (s : LastKnown) (i j : ConnectionState) (held : Option Session) → (greets at s).streamed ≡ false → n < session_limit → j.disk ≡ i.disk → Acts (λ (way : Departure). greets at s) i held s j → Acts (said_making moment at n s) i held s j
greeting-made moment n at s i j held whole few kept acts =
    acts-any (λ (way : Departure). greets at s) (said_making moment at n s) (greets at s) i held s j (λ way. refl) whole (made-few moment at n s few) kept acts

-- A session was made that greets, and its greeting was sent.
pub makes-greeted : (moment c : ℕ) (at : Door) (p q r : OpenSessions) (i j : HostState) (start : Session) → ((s : LastKnown) → (greets at s).streamed ≡ false) → GotSession c p q → IsPut c start q r → p.count < session_limit → j.disk ≡ i.disk
    → ((s : LastKnown) → Acts (λ (way : Departure). greets at s) (outside_at c i) (Some start) s (outside_at c j)) → OthersKept c i.taken j.taken → ((d : ℕ) → j.closings d ≡ i.closings d) → ((d : ℕ) → j.closed_at d ≡ i.closed_at d) → MakesSession moment at c p i r j
makes-greeted moment c at p q r i j start whole placed put few kept acts taken closings at_kept = λ s. record {
  acts = subst (λ (n : ℕ). Acts (said_making moment at n s) (outside_at c i) (r.session c) s (outside_at c j)) (sym (others-none c s p i placed.none))
      (subst (λ (x : Option Session). Acts (said_making moment at p.count s) (outside_at c i) x s (outside_at c j)) (sym put.here) (greeting-made moment p.count at s (outside_at c i) (outside_at c j) (Some start) (whole s) few kept (acts s)));
  around = around-placed c start s p r i j placed.none put.here (λ d other. put.others d other ∙ placed.others d other) (put.count ∙ placed.count) taken closings at_kept;
}

-- Its greeting was lost, and it ended.
pub makes-lost : (moment c : ℕ) (at : Door) (p q r : OpenSessions) (i j k : HostState) → ((s : LastKnown) → (greets at s).streamed ≡ false) → GotSession c p q → SessionEnds c q r → p.count < session_limit → j.disk ≡ i.disk → k.disk ≡ j.disk → k.lost ≡ j.lost → ((d : ℕ) → k.taken d ≡ j.taken d)
    → ((s : LastKnown) → Acts (λ (way : Departure). greets at s) (outside_at c i) None s (outside_at c j)) → OthersKept c i.taken j.taken → ((d : ℕ) → j.closings d ≡ i.closings d) → OthersKept c j.closings k.closings → k.closings c ≡ one_more (j.closings c) → ((d : ℕ) → j.closed_at d ≡ i.closed_at d) → OthersKept c j.closed_at k.closed_at → k.closed_at c ≡ closed_with (j.taken c) (j.closed_at c) → MakesSession moment at c p i r k
makes-lost moment c at p q r i j k whole placed ends few kept disk lost same acts taken closings others closed at_kept at_others at_closed = λ s.
    let ended = ends in
    let zero : one_if (p.session c) ≡ 0 = ap (λ (x : Option Session). one_if x) placed.none in
    let one : one_if (q.session c) ≡ 1 = ap (λ (x : Option Session). one_if x) placed.some in
    let none : one_if (r.session c) ≡ 0 = ap (λ (x : Option Session). one_if x) ended.gone in
    let out : outside_at c j ≡ outside_at c k = λ e. record { out = sym (same c) e; disk = sym disk e; lost = sym lost e } in
    let said = greeting-made moment p.count at s (outside_at c i) (outside_at c j) None (whole s) few kept (acts s) in
    let here = subst (λ (o : ConnectionState). Acts (said_making moment at p.count s) (outside_at c i) None s o) out said in
    record {
      acts = subst (λ (n : ℕ). Acts (said_making moment at n s) (outside_at c i) (r.session c) s (outside_at c k)) (sym (others-none c s p i placed.none))
          (subst (λ (x : Option Session). Acts (said_making moment at p.count s) (outside_at c i) x s (outside_at c k)) (sym ended.gone) here);
      around = record {
        sessions = λ d other. ended.sessions d other ∙ placed.others d other;
        taken = λ d other. same d ∙ taken d other;
        closings = λ d other. others d other ∙ closings d;
        closed = closed ∙ ap one_more (closings c) ∙ sym (ap (λ (x : Option Session). closed_if x (i.closings c)) ended.gone);
        count = omega (arith, ended.count, placed.count, zero, one, none);
        closed_at = closed-last c i j k at_kept same at_closed ∙ sym (ap (λ (x : Option Session). closed_at_if x (k.taken c) (i.closed_at c)) ended.gone);
        closed_at_others = λ d other. at_others d other ∙ at_kept d;
      };
    }

-- An open session of the connection ended first.
pub makes-after : (moment : ℕ) (at : Door) (c : ℕ) (p q r : OpenSessions) (i j : HostState) → SessionEnds c p q → MakesSession moment at c q i r j → MakesSession moment at c p i r j
makes-after moment at c p q r i j ends makes = λ s.
    let ended = ends in
    let act = makes s in
    let zero : one_if (q.session c) ≡ 0 = ap (λ (x : Option Session). one_if x) ended.gone in
    let others : others_open c (world_of s q i) ≡ others_open c (world_of s p i) = omega (arith, ended.count, zero) in
    record {
      acts = subst (λ (n : ℕ). Acts (said_making moment at n s) (outside_at c i) (r.session c) s (outside_at c j)) others act.acts;
      around = record {
        sessions = λ d other. act.around.sessions d other ∙ ended.sessions d other;
        taken = act.around.taken;
        closings = act.around.closings;
        closed = act.around.closed;
        count = omega (arith, ended.count, act.around.count, zero);
        closed_at = act.around.closed_at;
        closed_at_others = act.around.closed_at_others;
      };
    }

-- The same of lists of sessions of which one is the other.
pub makes-unchanged : (moment : ℕ) (at : Door) (c : ℕ) (p : OpenSessions) (old new : List (ℕ × Session)) (i j : HostState) → new ≡ old → MakesSession moment at c p i (places_of old) j → MakesSession moment at c p i (places_of new) j
makes-unchanged moment at c p old new i j same makes = subst (λ (sessions : List (ℕ × Session)). MakesSession moment at c p i (places_of sessions) j) (sym same) makes

-- An end is one of a world.
pub ended-world : (c : ℕ) (p q : OpenSessions) (s : LastKnown) (o : HostState) → SessionEnds c p q → EndedAt c (world_of s p o) (world_of s q o)
ended-world c p q s o ends = record { standing = refl; gone = ends.gone; sessions = ends.sessions; count = ends.count; out = refl }

-- What the acts of an event change, whatever the keeper holds, and whatever is noted of sessions that idle.
module _ {K : Type 0} (arrival : Arrival) (c : ℕ) (old new : K) (p q : List (ℕ × Session)) (m n : Idling) (i j : HostState) where
  -- No session took a piece.
  pub came-unfed : session_of p c ≡ None → ActsStill arrival (serving old p m) i (serving new q n) j → CameAnyway (session_of p c) c arrival (serving old p m) i (serving new q n) j
  came-unfed none still = subst (λ (x : Option Session). CameAnyway x c arrival (serving old p m) i (serving new q n) j) (sym none) still

  -- One took it.
  pub came-fed : (start : Session) → session_of p c ≡ Some start → ((s t : LastKnown) → Around c (world_of s (places_of p) i) (world_of t (places_of q) j)) → CameAnyway (session_of p c) c arrival (serving old p m) i (serving new q n) j
  came-fed start here around = subst (λ (x : Option Session). CameAnyway x c arrival (serving old p m) i (serving new q n) j) (sym here) around

-- The acts of an event.
module _ {K : Type 0} (g : Keeper K) where
  -- Acts that leave the keeper.
  pub acts-still : (arrival : Arrival) (s : LastKnown) (k : K) (p q : List (ℕ × Session)) (m n : Idling) (i j : HostState) → MatchesKnown g k s → Acted arrival (world_of s (places_of p) i) [] (world_of s (places_of q) j) → TurnKept (ActsAlong g) arrival k (world_of s (places_of p) i) [] k (world_of s (places_of q) j) → ActsTo g arrival s (serving k p m) i (serving k q n) j
  acts-still arrival s k p q m n i j fits acted still = record {
    after = s;
    fits = fits;
    passed = [];
    acted = acted;
    kept = still;
    passes = λ start may has since. since;
  }

  -- Nothing happened.
  pub same-world : (s : LastKnown) (p : OpenSessions) (i : HostState) → Same (world_of s p i) (world_of s p i)
  same-world s p i = record { standing = refl; sessions = λ c. refl; count = refl; out = refl }

  -- A session took a piece.
  pub acts-fed : (moment c len : ℕ) (piece : List ℕ) (start : Session) (s : LastKnown) (old new : K) (p q : List (ℕ × Session)) (m n : Idling) (i j : HostState) (goes_on : Bool) (left : Session) → session_of p c ≡ Some start → session_of q c ≡ held_if goes_on left
      → FedFrom g moment (Came start piece) s old (outside_at c i) goes_on left new (outside_at c j) → ((t : LastKnown) → Around c (world_of s (places_of p) i) (world_of t (places_of q) j))
      → ActsTo g (record { moment = moment; what = what.Bytes c len }, piece) s (serving old p m) i (serving new q n) j
  acts-fed moment c len piece start s old new p q m n i j goes_on left here kept fed around =
      let passed = afters (fed.course.acts ++ talk fed.held fed.after (outside_at c j) ∷ []) in
      let at : FedAt moment c start piece (world_of s (places_of p) i) passed (world_of fed.after (places_of q) j) = record {
        held = fed.held;
        acts = fed.course.acts;
        before = fed.course.before;
        each = fed.course.each;
        last = fed.course.last;
        rest_is = kept ∙ fed.rest_is;
        around = around fed.after;
        passed_is = refl;
      } in
      let piece_kept : PieceKept (ActsAlong g) moment c start piece old (world_of s (places_of p) i) passed new (world_of fed.after (places_of q) j) = record {
        held = fed.held;
        rest_is = kept ∙ fed.rest_is;
        course = fed.course;
        passed_is = refl;
      } in
      let within : CrashesLeaveOnly g.leaves old new (s ∷ passed) = kept-left g (doors_at moment) old new (talk (Some (Came start piece)) s (outside_at c i)) fed.course.states (fed.course.acts ++ talk fed.held fed.after (outside_at c j) ∷ []) fed.course.kept in
      record {
        after = fed.after;
        fits = fed.fits;
        passed = passed;
        acted = subst (λ (x : Option Session). CameTo x moment c piece (world_of s (places_of p) i) passed (world_of fed.after (places_of q) j)) (sym here) at;
        kept = subst (λ (x : Option Session). CameKept (ActsAlong g) x moment c piece old (world_of s (places_of p) i) passed new (world_of fed.after (places_of q) j)) (sym here) piece_kept;
        passes = within;
      }

-- All around a session that goes on.
pub around-went : (c : ℕ) (start left : Session) (s t : LastKnown) (p q : OpenSessions) (i j : HostState) → p.session c ≡ Some start → IsPut c left p q → OthersKept c i.taken j.taken → ((d : ℕ) → j.closings d ≡ i.closings d) → ((d : ℕ) → j.closed_at d ≡ i.closed_at d) → Around c (world_of s p i) (world_of t q j)
around-went c start left s t p q i j here put taken closings at_kept =
    let one : one_if (p.session c) ≡ 1 = ap (λ (x : Option Session). one_if x) here in
    let still : one_if (q.session c) ≡ 1 = ap (λ (x : Option Session). one_if x) put.here in
    record {
      sessions = put.others;
      taken = taken;
      closings = λ d other. closings d;
      closed = closings c ∙ sym (ap (λ (x : Option Session). closed_if x (i.closings c)) put.here);
      count = omega (arith, put.count, one, still);
      closed_at = at_kept c ∙ sym (ap (λ (x : Option Session). closed_at_if x (j.taken c) (i.closed_at c)) put.here);
      closed_at_others = λ d other. at_kept d;
    }

-- All around one that ended.
pub around-shut : (c : ℕ) (start left : Session) (s t : LastKnown) (p q r : OpenSessions) (i j k : HostState) → p.session c ≡ Some start → IsPut c left p q → SessionEnds c q r → OthersKept c i.taken j.taken → ((d : ℕ) → j.closings d ≡ i.closings d) → ((d : ℕ) → k.taken d ≡ j.taken d) → OthersKept c j.closings k.closings
    → k.closings c ≡ one_more (j.closings c) → ((d : ℕ) → j.closed_at d ≡ i.closed_at d) → OthersKept c j.closed_at k.closed_at → k.closed_at c ≡ closed_with (j.taken c) (j.closed_at c) → Around c (world_of s p i) (world_of t r k)
around-shut c start left s t p q r i j k here put ends taken closings same others closed at_kept at_others at_closed =
    let ended = ends in
    let one : one_if (p.session c) ≡ 1 = ap (λ (x : Option Session). one_if x) here in
    let still : one_if (q.session c) ≡ 1 = ap (λ (x : Option Session). one_if x) put.here in
    let none : one_if (r.session c) ≡ 0 = ap (λ (x : Option Session). one_if x) ended.gone in
    record {
      sessions = λ d other. ended.sessions d other ∙ put.others d other;
      taken = λ d other. same d ∙ taken d other;
      closings = λ d other. others d other ∙ closings d;
      closed = closed ∙ ap one_more (closings c) ∙ sym (ap (λ (x : Option Session). closed_if x (i.closings c)) ended.gone);
      count = omega (arith, ended.count, put.count, one, still, none);
      closed_at = closed-last c i j k at_kept same at_closed ∙ sym (ap (λ (x : Option Session). closed_at_if x (k.taken c) (i.closed_at c)) ended.gone);
      closed_at_others = λ d other. at_others d other ∙ at_kept d;
    }

-- The session of a door in the place of one, if it is open.
held-kind : {H : Type 0} (into : H → Session) (goes_on : Bool) (left : H) → held_over into (held_if goes_on left) ≡ held_if goes_on (into left)
held-kind into true left = refl
held-kind into false left = refl

-- What a door says as its greeting, over the sessions of all doors.
pub greets-over : {H A : Type 0} (at : Door) (into : H → Session) (s : LastKnown) (a : A) (greeting : Departure → Said H A) (goes_on : Bool) (left : H) (i j : ConnectionState) → ((way : Departure) → greets at s ≡ said_over (λ (x : A). s) into (greeting way))
    → Acts greeting i (held_if goes_on left) a j → Acts (λ (way : Departure). greets at s) i (held_if goes_on (into left)) s j
greets-over {H} {A} at into s a greeting goes_on left i j same acts =
    subst (λ (o : Option Session). Acts (λ (way : Departure). greets at s) i o s j) (held-kind into goes_on left)
    (acts-over (λ (x : A). s) into greeting (λ (way : Departure). greets at s) i (held_if goes_on left) a j same acts)

-- No greeting is streamed.
pub greets-whole : (at : Door) (s : LastKnown) → (greets at s).streamed ≡ false
greets-whole at s = refl

-- A door that opens its session without a word.
pub greets-silent : (at : Door) (start : Session) (s : LastKnown) (i : ConnectionState) → opening_at at ≡ (start, []) → Acts (λ (way : Departure). greets at s) i (Some start) s i
greets-silent at start s i silent =
    acts-silent (λ (way : Departure). greets at s) (says s start []) i i (Some start) s (ap (λ (o : Session × List ℕ). says s o.0 o.1) silent) refl refl refl refl refl refl

-- An act at the sink of a connection is one at its host.
pub act-at_host : {H : Type 0} (g : Host H) (words : Departure → Said Session LastKnown) (c n : ℕ) (i : ConnectionState) (held : Option Session) (s : LastKnown) (disk : ℕ) (host now : H) → n ≡ c → now ≡ host → Acts words i held s (outside_at n (at_host g host disk)) → Acts words i held s (outside_at c (at_host g now disk))
act-at_host g words c n i held s disk host now same is acts =
    rw is (subst (λ (m : ℕ). Acts words i held s (outside_at m (at_host g host disk))) same acts)
