-- Events in order.
use Rattle.std.proofs.Common.{◌≡◌, ◌<◌, ◌+◌, ℕ, Bool, true, false, List, [], ◌∷◌, ◌++◌, length, take, Option, Some, None, refl, sym, ap, subst, ◌∙◌, arith, append_assoc, length-append, inl, inr, if◌then◌else◌}
use Rattle.edge_io.specs.Hosts.{ToldEvents, then_given, before_left}
use Rattle.edge_io.specs.Frames.{Outputs, outputs}
use Rattle.edge_io.specs.Scripts.{Arrival}
use Rattle.edge_io.specs.Hosts.{NoneLeft, GaveOne}
use Rattle.edge_io.specs.Events.{piece_len}
use Rattle.edge_io.specs.declared.events.Event.{Event}
use Rattle.edge_io.specs.declared.events.What.{What}
use Rattle.edge_io.specs.declared.events.What.TheVariants as what
use Rattle.line_door.specs.Acts.{Departure, Plain, Memory, Disk, Newer}
use Rattle.line_door.specs.Course.{SessionState, talk}
use Rattle.arch_model.specs.Archives.{Archive}
use Rattle.arch_model.specs.Standing.{LastKnown, standing, unsure_of}
use Rattle.arch_model.specs.Keeping.{Has, HasAll, CrashesLeaveOnly, MatchesKnown, Keeper}
use Rattle.arch_model.proofs.Keepers.{all-split}
use Rattle.keep_course.specs.Answering.{newer_of}
use Rattle.keep_course.specs.Courses.{afters, archives_of}
use Rattle.keep_course.proofs.Courses.{all-own}
use Rattle.node_serve.specs.Doors.{SessionAtWork}
use Rattle.node_serve.specs.Ends.{NoStop, ServingEnds, is_stop, given_after, before_all}
use Rattle.node_serve.specs.Nodes.{Serving, Stage, stage, EventStages, event_stages, Along, AreAt, places_in, world_of, world_at, outputs_at, outputs_along, outputs_noted, outputs_asked, GoesAnyway, GoesReading, GoesCounting, ReopenedIf, UpdatesKept, NodeSuits, StepsOnce, StepsTo, TurnsTo, TurnsBy, TookOne, TookNone, TakesOne, RunsTo, ServesTo}
use Rattle.node_serve.specs.Plain.{last_world}
use Rattle.node_serve.specs.Turns.{Turn, CameTo, ActedBy, Acted, Turned, Served, passed_in, outputs_of, outputs_before}
use Rattle.node_serve.specs.Updates.{any_idles, reopening, UpdatedUnless}
use Rattle.node_serve.specs.World.{HostState, NodeState, outer, others_open}
use Rattle.node_serve.specs.declared.serving.Taken.{Taken}
use Rattle.node_serve.specs.declared.serving.Taken.TheVariants.{Went, Stops}
use Rattle.node_serve.specs.declared.serving.ServeEnd.{ServeEnd}
use Rattle.node_serve.specs.declared.serving.ServeEnd.TheVariants as end
use Rattle.node_serve.specs.declared.session.Session.{Session}
use Rattle.node_serve.proofs.Later.{acts-after, making-after, UpdatesLeave, updated-stands}

-- One event more.
pub served-more : (es : List Arrival) (w : NodeState) (ts : List Turn) (m : NodeState) (e : Arrival) (t : Turn) → Served es w ts m → Turned e m t → Served (es ++ e ∷ []) w (ts ++ t ∷ []) t.after
served-more [] w [] m e t run turned = (subst (λ (x : NodeState). Turned e x t) run turned, refl)
served-more [] w (u ∷ ts) m e t never turned = absurd never
served-more (x ∷ es) w [] m e t never turned = absurd never
served-more (x ∷ es) w (u ∷ ts) m e t run turned = (run.0, served-more es u.after ts m e t run.1 turned)

-- What was given.
pub given-more : (given : ToldEvents) (es : List Arrival) (e : Arrival) → given_after given (es ++ e ∷ []) ≡ then_given (given_after given es) e
given-more given [] e = refl
given-more given (x ∷ es) e = given-more (then_given given x) es e

-- What was left.
pub left-more : (es : List Arrival) (e : Arrival) (left : ToldEvents) → before_all (es ++ e ∷ []) left ≡ before_all es (before_left e left)
left-more [] e left = refl
left-more (x ∷ es) e left = ap (before_left x) (left-more es e left)

-- And no stop among them.
pub none-more : (es : List Arrival) (e : Arrival) → NoStop es → is_stop e.0.what ≡ false → NoStop (es ++ e ∷ [])
none-more [] e none last = (last, tt)
none-more (x ∷ es) e none last = (none.0, none-more es e none.1 last)

-- The stages of one event more.
pub along-more : {K : Type 0} (does : Arrival → Stage K → EventStages K → Type 0) (es : List Arrival) (p : Stage K) (ms : List (EventStages K)) (m : Stage K) (q : EventStages K) (e : Arrival) → Along does es p ms m → does e m q → Along does (es ++ e ∷ []) p (ms ++ q ∷ []) q.after
along-more does [] p [] m q e run step = (subst (λ x. does e x q) run step, refl)
along-more does [] p (x ∷ ms) m q e never step = absurd never
along-more does (x ∷ es) p [] m q e never step = absurd never
along-more does (x ∷ es) p (y ∷ ms) m q e run step = (run.0, along-more does es y.after ms m q e run.1 step)

at-more : {K : Type 0} (ms : List (EventStages K)) (ts : List Turn) (q : EventStages K) (t : Turn) → AreAt ms ts → t.between ≡ world_at t.between.standing q.acted → t.after ≡ world_at t.after.standing q.after → AreAt (ms ++ q ∷ []) (ts ++ t ∷ [])
at-more [] [] q t at acted is = (acted, is, tt)
at-more [] (u ∷ ts) q t never acted is = absurd never
at-more (m ∷ ms) [] q t never acted is = absurd never
at-more (m ∷ ms) (u ∷ ts) q t at acted is = (at.0, at.1, at-more ms ts q t at.2 acted is)

-- The outputs before each.
outputs-more : {K : Type 0} (does : Arrival → Stage K → EventStages K → Type 0) (es : List Arrival) (p : Stage K) (ms : List (EventStages K)) (m : Stage K) (q : EventStages K) → Along does es p ms m → outputs_along p (ms ++ q ∷ []) ≡ outputs_along p ms ++ outputs_at m ∷ []
outputs-more does [] p [] m q run = ap (λ x. outputs_at x ∷ []) (sym run)
outputs-more does [] p (x ∷ ms) m q never = absurd never
outputs-more does (e ∷ es) p [] m q never = absurd never
outputs-more does (e ∷ es) p (x ∷ ms) m q run = ap (λ (os : List Outputs). outputs_at p ∷ os) (outputs-more does es x.after ms m q run.1)

-- They are those of the worlds of the turns at the stages.
outputs-before : {K : Type 0} (p : Stage K) (ms : List (EventStages K)) (w : NodeState) (ts : List Turn) → AreAt ms ts → outputs_of w ≡ outputs_at p → outputs_before w ts ≡ outputs_along p ms
outputs-before p [] w [] at is = refl
outputs-before p [] w (t ∷ ts) never is = absurd never
outputs-before p (m ∷ ms) w [] never is = absurd never
outputs-before p (m ∷ ms) w (t ∷ ts) at is = ap (λ (o : Outputs). o ∷ outputs_before t.after ts) is ∙ ap (λ (os : List Outputs). outputs_at p ∷ os) (outputs-before m.after ms t.after ts at.2 (ap outputs_of at.1))

pub outputs-asked : {K : Type 0} (none : Bool) (p : Stage K) (ms : List (EventStages K)) (q : Stage K) (w : NodeState) (ts : List Turn) (v : NodeState) → AreAt ms ts → outputs_of w ≡ outputs_at p → outputs_of v ≡ outputs_at q → outputs_asked none w ts v ≡ outputs_noted none p ms q
outputs-asked true p ms q w ts v at first last = ap (λ (os : List Outputs). os ++ outputs_of v ∷ []) (outputs-before p ms w ts at first) ∙ ap (λ (o : Outputs). outputs_along p ms ++ o ∷ []) last
outputs-asked false p ms q w ts v at first last = outputs-before p ms w ts at first

append-none : {X : Type 0} (xs : List X) → xs ++ [] ≡ xs
append-none [] = refl
append-none {X} (x ∷ xs) = ap (λ (ys : List X). x ∷ ys) (append-none xs)

passed-more : (ts : List Turn) (t : Turn) → passed_in (ts ++ t ∷ []) ≡ passed_in ts ++ (t.passed ++ t.reopened)
passed-more [] t = ap (λ (ss : List LastKnown). t.passed ++ ss) (append-none t.reopened)
passed-more (u ∷ ts) t =
    ap (λ (ss : List LastKnown). u.passed ++ (u.reopened ++ ss)) (passed-more ts t)
    ∙ ap (λ (ss : List LastKnown). u.passed ++ ss) (sym (append_assoc u.reopened (passed_in ts) (t.passed ++ t.reopened)))
    ∙ sym (append_assoc u.passed (u.reopened ++ passed_in ts) (t.passed ++ t.reopened))

-- Nothing was taken.
pub took-nothing : {K : Type 0} (node : Serving K) (i : HostState) (given left : ToldEvents) → TookNone node i node i given given left left
took-nothing node i given left = record { node_kept = refl; out_kept = refl; given_kept = refl; left_kept = refl }

-- The outside stays where what is told of it does.
pub outer-same : (taken taken' : ℕ → Option (List ℕ)) (closings closings' : ℕ → Option ℕ) (disk lost lost' : ℕ) (closed_at closed_at' : ℕ → Option (List ℕ)) → ((c : ℕ) → taken' c ≡ taken c) → ((c : ℕ) → closings' c ≡ closings c) → lost' ≡ lost → ((c : ℕ) → closed_at' c ≡ closed_at c) → outer taken' closings' disk lost' closed_at' ≡ outer taken closings disk lost closed_at
outer-same taken taken' closings closings' disk lost lost' closed_at closed_at' t c l a = λ i. record { taken = λ (n : ℕ). t n i; closings = λ (n : ℕ). c n i; disk = disk; lost = l i; closed_at = λ (n : ℕ). a n i }

-- How the archive stands after an event, if those before it and after each of its acts are told.

afters-last : (may : List (Option Archive)) (acts : List (SessionState SessionAtWork LastKnown)) (t : SessionState SessionAtWork LastKnown) → HasAll may (afters (acts ++ t ∷ [])) → Has may t.after
afters-last may [] t has = has.0
afters-last may (a ∷ acts) t has = afters-last may acts t has.1

-- After its acts.
pub acted-has : (may : List (Option Archive)) (e : Arrival) (w : NodeState) (passed : List LastKnown) (v : NodeState) → Acted e w passed v → Has may w.standing → HasAll may passed → Has may v.standing
acted-has may e w passed v acted now later = by e.0.what acted
  where
    same : v.standing ≡ w.standing → Has may v.standing
    same is = subst (λ (s : LastKnown). Has may s) (sym is) now

    fed : (c : ℕ) (start : Option Session) → CameTo start e.0.moment c e.1 w passed v → Has may v.standing
    fed c None came = same came.0.standing
    fed c (Some start) came = afters-last may came.acts (talk came.held v.standing _) (subst (λ (ss : List LastKnown). HasAll may ss) came.passed_is later)

    by : (x : What) → ActedBy x e.0.moment e.1 w passed v → Has may v.standing
    by (what.Opened c at) t = same (acts-after _ w.standing _ _ v.standing _ (λ way. making-after e.0.moment at (others_open c w) w.standing way) t.0.acts)
    by (what.Bytes c len) t = fed c (w.session c) t
    by (what.Ended c) t = same t.0.standing
    by what.Quiet t = same t.0.standing
    by what.Stop t = same t.0.standing

-- After a reopening: the archive that stood or the one in doubt, or, where it was refused, what stood.

newer-has : (may : List (Option Archive)) (a : Archive) (d : Option Archive) → Has may (standing a d) → Has may (standing (newer_of a d) None)
newer-has may a None has = record { archive = has.archive; in_doubt = tt }
newer-has may a (Some b) has = record { archive = has.in_doubt; in_doubt = tt }

unsure-has : (may : List (Option Archive)) (a : Archive) (d : Option Archive) → Has may (standing a d) → Has may (unsure_of a d)
unsure-has may a None has = record { archive = has.archive; in_doubt = has.archive }
unsure-has may a (Some b) has = record { archive = has.archive; in_doubt = has.in_doubt }

pub reopening-has : (may : List (Option Archive)) (s : LastKnown) (way : Departure) → Has may s → Has may (reopening s way).after
reopening-has may s Plain has = record { archive = has.archive; in_doubt = tt }
reopening-has may s Newer has = newer-has may s.archive s.in_doubt (record { archive = has.archive; in_doubt = has.in_doubt })
reopening-has may s Memory has = has
reopening-has may s Disk has = unsure-has may s.archive s.in_doubt (record { archive = has.archive; in_doubt = has.in_doubt })

-- After its updates, and after the reopening before them, if there was one.

updated-both : (may : List (Option Archive)) (s : LastKnown) (rs : List LastKnown) (t : LastKnown) → UpdatesLeave s rs t → Has may s → Has may t × HasAll may rs
updated-both may s rs t (inl same) has = (subst (λ (x : LastKnown). Has may x) (sym same.0) has, subst (λ (ss : List LastKnown). HasAll may ss) (sym same.1) tt)
updated-both may s rs t (inr left) has =
    let now = subst (λ (x : LastKnown). Has may x) (sym left.1) (reopening-has may s left.0 has) in
    (now, subst (λ (ss : List LastKnown). HasAll may ss) (sym left.2) (now, tt))

pub updated-has : (may : List (Option Archive)) (stops : Bool) (w : NodeState) (reopened : List LastKnown) (v : NodeState) → UpdatedUnless stops w reopened v → Has may w.standing → Has may v.standing
updated-has may stops w reopened v updated has = (updated-both may w.standing reopened v.standing (updated-stands stops w reopened v updated) has).0

pub all-reopened : (may : List (Option Archive)) (stops : Bool) (w : NodeState) (reopened : List LastKnown) (v : NodeState) → UpdatedUnless stops w reopened v → Has may w.standing → HasAll may reopened
all-reopened may stops w reopened v updated has = (updated-both may w.standing reopened v.standing (updated-stands stops w reopened v updated) has).1

-- The same of a turn: after its acts, and after its updates.

pub turned-has : (may : List (Option Archive)) (e : Arrival) (w : NodeState) (t : Turn) → Turned e w t → Has may w.standing → HasAll may t.passed → Has may t.between.standing
turned-has may e w t turned now later = acted-has may e w t.passed t.between turned.0 now later

pub turned-after : (may : List (Option Archive)) (e : Arrival) (w : NodeState) (t : Turn) → Turned e w t → Has may w.standing → HasAll may t.passed → Has may t.after.standing
turned-after may e w t turned now later = updated-has may (is_stop e.0.what) t.between t.reopened t.after turned.1 (turned-has may e w t turned now later)

served-has : (may : List (Option Archive)) (es : List Arrival) (w : NodeState) (ts : List Turn) (v : NodeState) → Served es w ts v → Has may w.standing → HasAll may (passed_in ts) → Has may v.standing
served-has may [] w [] v run now later = subst (λ (x : NodeState). Has may x.standing) (sym run) now
served-has may [] w (t ∷ ts) v never now later = absurd never
served-has may (e ∷ es) w [] v never now later = absurd never
served-has may (e ∷ es) w (t ∷ ts) v run now later =
    let parts = all-split may t.passed (t.reopened ++ passed_in ts) later in
    let rest = all-split may t.reopened (passed_in ts) parts.1 in
    served-has may es t.after ts v run.1 (turned-after may e w t run.0 now parts.0) rest.1

-- The world after these turns.
served-world : (es : List Arrival) (w : NodeState) (ts : List Turn) (v : NodeState) → Served es w ts v → v ≡ last_world w ts
served-world [] w [] v run = run
served-world [] w (t ∷ ts) v never = absurd never
served-world (e ∷ es) w [] v never = absurd never
served-world (e ∷ es) w (t ∷ ts) v run = served-world es t.after ts v run.1

module _ {K : Type 0} (g : Keeper K) where
  -- What a crash since a run began leaves.
  pub crash-left : (old new : K) (s : LastKnown) (passed : List LastKnown) → MatchesKnown g old s → CrashesLeaveOnly g.leaves old new (s ∷ passed) → g.leaves old new (archives_of (s ∷ passed))
  crash-left old new s passed fits passes = let own = all-own (s ∷ passed) in passes old (archives_of (s ∷ passed)) own (fits.left (archives_of (s ∷ passed)) own.0)

  -- Updates add nothing to it.
  reopened-pass : (idle : Bool) (old : K) (w : NodeState) (new : K) (v : NodeState) → ReopenedIf g idle old w new v → CrashesLeaveOnly g.leaves old new []
  reopened-pass true old w new v kept = kept.leaves
  reopened-pass false old w new v kept = λ start may has since. subst (λ (k : K). g.leaves start k may) (sym kept) since

  pub updates-pass : (stops : Bool) (old : K) (w : NodeState) (new : K) (v : NodeState) → UpdatesKept g stops old w new v → CrashesLeaveOnly g.leaves old new []
  updates-pass true old w new v kept = λ start may has since. subst (λ (k : K). g.leaves start k may) (sym kept) since
  updates-pass false old w new v kept = reopened-pass (any_idles w.session) old w new v kept

  -- Before the first event.
  pub runs-none : (s : LastKnown) (node : Serving K) (i : HostState) → MatchesKnown g node.keep s → NodeSuits g s node i → RunsTo g [] s node i [] node i
  runs-none s node i fits suits = record {
    after = s;
    fits = fits;
    turns = [];
    served = refl;
    at = tt;
    steps = refl;
    suits = suits;
    passes = λ start may has since. since;
    crash = crash-left node.keep node.keep s [] fits (λ start may has since. since);
  }

  -- One turn more.
  steps-more : (es : List Arrival) (ms : List (EventStages K)) (ts : List Turn) (e : Arrival) (q : EventStages K) (t : Turn) (w : NodeState) (old mid : K) → StepsTo g es old w ms ts mid → StepsOnce g e mid (last_world w ts) q t → StepsTo g (es ++ e ∷ []) old w (ms ++ q ∷ []) (ts ++ t ∷ []) q.after.node.keep
  steps-more [] [] [] e q t w old mid steps once = (subst (λ (k : K). StepsOnce g e k w q t) steps once, refl)
  steps-more [] [] (u ∷ ts) e q t w old mid never once = absurd never
  steps-more [] (m ∷ ms) ts e q t w old mid never once = absurd never
  steps-more (x ∷ es) [] ts e q t w old mid never once = absurd never
  steps-more (x ∷ es) (m ∷ ms) [] e q t w old mid never once = absurd never
  steps-more (x ∷ es) (m ∷ ms) (u ∷ ts) e q t w old mid steps once = (steps.0, steps-more es ms ts e q t u.after m.after.node.keep mid steps.1 once)

  -- One event more.
  pub runs-more : (es : List Arrival) (e : Arrival) (s : LastKnown) (old mid : Serving K) (i j : HostState) (ms : List (EventStages K)) (m : EventStages K) → MatchesKnown g old.keep s → (run : RunsTo g es s old i ms mid j) → TurnsTo g e run.after (stage mid j) m
      → RunsTo g (es ++ e ∷ []) s old i (ms ++ m ∷ []) m.after.node m.after.out
  runs-more es e s old mid i j ms m fits run turn =
      let acted = world_of turn.acts.after (places_in m.acted.node) m.acted.out in
      let done = world_of turn.updates.after (places_in m.after.node) m.after.out in
      let last : Turn = record { passed = turn.acts.passed; between = acted; reopened = turn.updates.reopened; after = done } in
      let turned : Turned e (world_of run.after (places_in mid) j) last = (turn.acts.acted, turn.updates.updated) in
      let ts = run.turns ++ last ∷ [] in
      let first = world_of s (places_in old) i in
      let now = world_of run.after (places_in mid) j in
      let before = served-world es first run.turns now run.served in
      let once : StepsOnce g e mid.keep now m last = record { acted_fits = turn.acts.fits; fits = turn.updates.fits; passes = turn.acts.passes; kept = turn.acts.kept; updates = turn.updates.kept } in
      let passes : CrashesLeaveOnly g.leaves old.keep m.after.node.keep (s ∷ passed_in ts) = λ start may has since.
      let parts = all-split may (passed_in run.turns) (turn.acts.passed ++ turn.updates.reopened) (subst (λ (ss : List LastKnown). HasAll may ss) (passed-more run.turns last) has.1) in
      let own = all-split may turn.acts.passed turn.updates.reopened parts.1 in
      updates-pass (is_stop e.0.what) m.acted.node.keep acted m.after.node.keep done turn.updates.kept start may tt
      (turn.acts.passes start may (served-has may es first run.turns now run.served has.0 parts.0, own.0) (run.passes start may (has.0, parts.0) since)) in
      record {
        after = turn.updates.after;
        fits = turn.updates.fits;
        turns = ts;
        served = served-more es first run.turns now e last run.served turned;
        at = at-more ms run.turns m last run.at refl refl;
        steps = steps-more es ms run.turns e m last first old.keep mid.keep run.steps (subst (λ (x : NodeState). StepsOnce g e mid.keep x m last) before once);
        suits = turn.suits;
        passes = passes;
        crash = crash-left old.keep m.after.node.keep s (passed_in ts) fits passes;
      }

  -- These events were taken, each from one stage to the next.
  pub record Reached (arrivals : List Arrival) (old : Serving K) (i : HostState) (new : Serving K) (j : HostState) (given given' left left' : ToldEvents) (recorded recorded' : List Outputs → Type 0) : Type 0 where
    pub given_is : given' ≡ given_after given arrivals
    pub left_is : left ≡ before_all arrivals left'
    pub stages : List (EventStages K)
    pub anyway : Along GoesAnyway arrivals (stage old i) stages (stage new j)
    pub reads_few : Along (GoesReading g) arrivals (stage old i) stages (stage new j)
    pub counts : Along (GoesCounting g.faults) arrivals (stage old i) stages (stage new j)
    pub records : (past : List Outputs) → recorded past → recorded' (past ++ outputs_noted false (stage old i) stages (stage new j))
    pub runs : (s : LastKnown) → MatchesKnown g old.keep s → NodeSuits g s old i → RunsTo g arrivals s old i stages new j

  -- So many were taken, and none of them was a stop.
  pub record SoFar (n : ℕ) (old : Serving K) (i : HostState) (new : Serving K) (j : HostState) (given given' left left' : ToldEvents) (recorded recorded' : List Outputs → Type 0) : Type 0 where
    pub arrivals : List Arrival
    pub count : length arrivals ≡ n
    pub none : NoStop arrivals
    pub reached : Reached arrivals old i new j given given' left left' recorded recorded'

  pub sofar-none : (node : Serving K) (i : HostState) (given left : ToldEvents) (recorded : List Outputs → Type 0) → SoFar 0 node i node i given given left left recorded recorded
  sofar-none node i given left recorded = record {
    arrivals = [];
    count = refl;
    none = tt;
    reached = record {
      given_is = refl;
      left_is = refl;
      stages = [];
      anyway = refl;
      reads_few = refl;
      counts = refl;
      records = λ past noted. subst (λ (os : List Outputs). recorded os) (sym (append-none past)) noted;
      runs = λ s fits suits. runs-none s node i fits suits;
    };
  }

  -- One event more: what it does, and what the host noted before it.
  reached-more : (es : List Arrival) (old mid new : Serving K) (i j k : HostState) (given given' given'' left left' left'' : ToldEvents) (recorded recorded' recorded'' : List Outputs → Type 0) (stops : Bool) → Reached es old i mid j given given' left left' recorded recorded'
      → (took : TookOne g mid j new k given' given'' left' left'' recorded' recorded'' stops) → Reached (es ++ took.arrival ∷ []) old i new k given given'' left left'' recorded recorded''
  reached-more es old mid new i j k given given' given'' left left' left'' recorded recorded' recorded'' stops far took = record {
    given_is = took.given_is ∙ ap (λ (g : ToldEvents). then_given g took.arrival) far.given_is ∙ sym (given-more given es took.arrival);
    left_is = far.left_is ∙ ap (before_all es) took.left_is ∙ sym (left-more es took.arrival left'');
    stages = far.stages ++ event_stages took.acted (stage new k) ∷ [];
    anyway = along-more GoesAnyway es (stage old i) far.stages (stage mid j) (event_stages took.acted (stage new k)) took.arrival far.anyway took.turns.anyway;
    reads_few = along-more (GoesReading g) es (stage old i) far.stages (stage mid j) (event_stages took.acted (stage new k)) took.arrival far.reads_few took.turns.reads_few;
    counts = along-more (GoesCounting g.faults) es (stage old i) far.stages (stage mid j) (event_stages took.acted (stage new k)) took.arrival far.counts took.turns.counts;
    records = λ past noted.
        let before = outputs_along (stage old i) far.stages in
        let more = outputs-more GoesAnyway es (stage old i) far.stages (stage mid j) (event_stages took.acted (stage new k)) far.anyway in
        let joined = took.records (past ++ before) (far.records past noted) in
        subst (λ (os : List Outputs). recorded'' os) (append_assoc past before (outputs_at (stage mid j) ∷ []) ∙ ap (λ (os : List Outputs). past ++ os) (sym more)) joined;
    runs = λ s fits suits. let run = far.runs s fits suits in runs-more es took.arrival s old mid i j far.stages (event_stages took.acted (stage new k)) fits run (took.turns.turns run.after run.fits run.suits);
  }

  pub sofar-more : (n : ℕ) (old mid new : Serving K) (i j k : HostState) (given given' given'' left left' left'' : ToldEvents) (recorded recorded' recorded'' : List Outputs → Type 0) → SoFar n old i mid j given given' left left' recorded recorded' → TookOne g mid j new k given' given'' left' left'' recorded' recorded'' false
      → SoFar (n + 1) old i new k given given'' left left'' recorded recorded''
  sofar-more n old mid new i j k given given' given'' left left' left'' recorded recorded' recorded'' far took = record {
    arrivals = far.arrivals ++ took.arrival ∷ [];
    count = let len = length-append far.arrivals (took.arrival ∷ []) in omega (arith, len, far.count);
    none = none-more far.arrivals took.arrival far.none took.stop_is;
    reached = reached-more far.arrivals old mid new i j k given given' given'' left left' left'' recorded recorded' recorded'' false far.reached took;
  }

  -- One event of the host.
  pub took-event : (event : Event) (into : List ℕ) (len : ℕ) (old new : Serving K) (i m j : HostState) (given given' given'' left left' left'' : ToldEvents) (recorded recorded' recorded'' : List Outputs → Type 0) → len ≡ piece_len event.what → GaveOne event into left left' given given' → m ≡ i
      → ((acted : Stage K) × TurnsBy g (event, take len into) (stage old m) (event_stages acted (stage new j))) → left'' ≡ left' → given'' ≡ given' → ((past : List Outputs) → recorded past → recorded' (past ++ outputs i.taken i.closings i.lost ∷ []))
      → ((past : List Outputs) → recorded' past → recorded'' past) → TookOne g old i new j given given'' left left'' recorded recorded'' (is_stop event.what)
  took-event event into len old new i m j given given' given'' left left' left'' recorded recorded' recorded'' size gave out turns left_same given_same noted later =
      let piece = take (piece_len event.what) into in
      record {
        arrival = (event, piece);
        given_is = given_same ∙ gave.last;
        left_is = gave.first ∙ ap (before_left (event, piece)) (sym left_same);
        stop_is = refl;
        acted = turns.0;
        turns = subst (λ (o : HostState). TurnsBy g (event, piece) (stage old o) (event_stages turns.0 (stage new j))) out (subst (λ (n : ℕ). TurnsBy g (event, take n into) (stage old m) (event_stages turns.0 (stage new j))) size turns.1);
        records = λ past is. later (past ++ outputs i.taken i.closings i.lost ∷ []) (noted past is);
      }

  -- It was a stop, or was none.
  pub takes-one : (taken : Taken) (stops : Bool) (old new : Serving K) (i j : HostState) (given given' left left' : ToldEvents) (faults faults' : ℕ) (recorded recorded' : List Outputs → Type 0) → taken ≡ (if stops then Stops else Went) → TookOne g old i new j given given' left left' recorded recorded' stops
      → TakesOne g taken old i new j given given' left left' faults faults' recorded recorded'
  takes-one taken true old new i j given given' left left' faults faults' recorded recorded' is took = subst (λ (t : Taken). TakesOne g t old i new j given given' left left' faults faults' recorded recorded') (sym is) took
  takes-one taken false old new i j given given' left left' faults faults' recorded recorded' is took = subst (λ (t : Taken). TakesOne g t old i new j given given' left left' faults faults' recorded recorded') (sym is) took

  -- The ends.

  pub ends-stopped : (n turns : ℕ) → n < turns → (old mid new : Serving K) (i j k : HostState) (given given' given'' left left' left'' : ToldEvents) (faults faults' : ℕ) (recorded recorded' recorded'' : List Outputs → Type 0) → SoFar n old i mid j given given' left left' recorded recorded'
      → TookOne g mid j new k given' given'' left' left'' recorded' recorded'' true → faults' ≡ faults → ServesTo g end.Stopped turns old i new k given given'' left left'' faults faults' recorded recorded''
  ends-stopped n turns before old mid new i j k given given' given'' left left' left'' faults faults' recorded recorded' recorded'' far took kept =
      let reached = reached-more far.arrivals old mid new i j k given given' given'' left left' left'' recorded recorded' recorded'' true far.reached took in
      record {
        arrivals = far.arrivals ++ took.arrival ∷ [];
        given_is = reached.given_is;
        left_is = reached.left_is;
        none = false;
        ends = (
          record { before = far.arrivals; last = took.arrival; none = far.none; stops = took.stop_is; are = refl },
          (let len = length-append far.arrivals (took.arrival ∷ []) in omega (arith, len, far.count, before)),
          kept,
        );
        stages = reached.stages;
        anyway = reached.anyway;
        reads_few = reached.reads_few;
        counts = reached.counts;
        records = reached.records;
        runs = reached.runs;
      }

  -- Nothing more was taken.
  reached-still : (es : List Arrival) (old mid new : Serving K) (i j k : HostState) (given given' given'' left left' left'' : ToldEvents) (recorded recorded' : List Outputs → Type 0) → Reached es old i mid j given given' left left' recorded recorded' → TookNone mid j new k given' given'' left' left'' → Reached es old i new k given given'' left left'' recorded recorded'
  reached-still es old mid new i j k given given' given'' left left' left'' recorded recorded' far took =
      let begun : Reached es old i mid j given given'' left left'' recorded recorded' = record {
        given_is = took.given_kept ∙ far.given_is;
        left_is = far.left_is ∙ ap (before_all es) (sym took.left_kept);
        stages = far.stages;
        anyway = far.anyway;
        reads_few = far.reads_few;
        counts = far.counts;
        records = far.records;
        runs = far.runs;
      } in
      subst (λ (node : Serving K). Reached es old i node k given given'' left left'' recorded recorded') (sym took.node_kept) (subst (λ (o : HostState). Reached es old i mid o given given'' left left'' recorded recorded') (sym took.out_kept) begun)

  pub ends-none : (n turns : ℕ) → n < turns → (old mid new : Serving K) (i j k : HostState) (given given' given'' left left' left'' : ToldEvents) (faults faults' : ℕ) (recorded recorded' recorded'' : List Outputs → Type 0) → SoFar n old i mid j given given' left left' recorded recorded' → TookNone mid j new k given' given'' left' left'' → NoneLeft left''
      → ((past : List Outputs) → recorded' past → recorded'' (past ++ outputs_at (stage mid j) ∷ [])) → faults' ≡ faults → ServesTo g end.Stopped turns old i new k given given'' left left'' faults faults' recorded recorded''
  ends-none n turns before old mid new i j k given given' given'' left left' left'' faults faults' recorded recorded' recorded'' far took none noted kept =
      let reached = reached-still far.arrivals old mid new i j k given given' given'' left left' left'' recorded recorded' far.reached took in
      let before_last = outputs_along (stage old i) reached.stages in
      record {
        arrivals = far.arrivals;
        given_is = reached.given_is;
        left_is = reached.left_is;
        none = true;
        ends = (far.none, none, (omega (arith, far.count, before)), kept);
        stages = reached.stages;
        anyway = reached.anyway;
        reads_few = reached.reads_few;
        counts = reached.counts;
        records = λ past is. subst (λ (o : HostState). recorded'' (past ++ (before_last ++ outputs o.taken o.closings o.lost ∷ []))) (sym took.out_kept)
            (subst (λ (os : List Outputs). recorded'' os) (append_assoc past before_last (outputs_at (stage mid j) ∷ [])) (noted (past ++ before_last) (reached.records past is)));
        runs = reached.runs;
      }

  -- No memory for the first event.
  pub ends-starved : (turns : ℕ) (node : Serving K) (i : HostState) (given left : ToldEvents) (faults : ℕ) (recorded : List Outputs → Type 0) → ServesTo g end.NoMemory turns node i node i given given left left faults faults recorded recorded
  ends-starved turns node i given left faults recorded = record {
    arrivals = [];
    given_is = refl;
    left_is = refl;
    none = false;
    ends = (refl, refl);
    stages = [];
    anyway = refl;
    reads_few = refl;
    counts = refl;
    records = λ past noted. subst (λ (os : List Outputs). recorded os) (sym (append-none past)) noted;
    runs = λ s fits suits. runs-none s node i fits suits;
  }

  -- The host failed, or enough was taken.
  pub ends-early : (how : ServeEnd) (n turns : ℕ) (old mid new : Serving K) (i j k : HostState) (given given' given'' left left' left'' : ToldEvents) (faults faults' : ℕ) (recorded recorded' recorded'' : List Outputs → Type 0) → (far : SoFar n old i mid j given given' left left' recorded recorded') → TookNone mid j new k given' given'' left' left''
      → ((past : List Outputs) → recorded' past → recorded'' past) → ServingEnds how false far.arrivals turns left'' faults faults' → ServesTo g how turns old i new k given given'' left left'' faults faults' recorded recorded''
  ends-early how n turns old mid new i j k given given' given'' left left' left'' faults faults' recorded recorded' recorded'' far took noted ends =
      let reached = reached-still far.arrivals old mid new i j k given given' given'' left left' left'' recorded recorded' far.reached took in
      record {
        arrivals = far.arrivals;
        given_is = reached.given_is;
        left_is = reached.left_is;
        none = false;
        ends = ends;
        stages = reached.stages;
        anyway = reached.anyway;
        reads_few = reached.reads_few;
        counts = reached.counts;
        records = λ past is. noted _ (reached.records past is);
        runs = reached.runs;
      }
