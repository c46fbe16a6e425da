-- The plain function of events is the only way to serve them whose acts all go by the rules.
use Rattle.std.proofs.Common.{◌≡◌, ◌⊎◌, ◌<◌, ◌-◌, ℕ, zero, suc, Bool, true, false, List, [], ◌∷◌, ◌++◌, Option, Some, None, refl, sym, ap, subst, ◌∙◌, arith, inl, inr}
use Rattle.std.proofs.lemmas.Bool.{false≢true}
use Rattle.edge_io.specs.Scripts.{Arrival}
use Rattle.edge_io.specs.Taken.{plus}
use Rattle.edge_io.specs.declared.events.What.{What}
use Rattle.edge_io.specs.declared.events.What.TheVariants as what
use Rattle.line_door.specs.Acts.{Said, Departure, Plain, PlainActs}
use Rattle.line_door.specs.Course.{SessionState, talk, PlainRequests, PlainLast, PlainFed, PlainStep, SessionStep, Requests, Last}
use Rattle.line_door.specs.Cuts.{CutDoor}
use Rattle.keep_course.specs.Courses.{afters}
use Rattle.arch_model.specs.Standing.{LastKnown}
use Rattle.node_serve.specs.Doors.{SessionAtWork, Came, more_bytes, rest_if, said, is_asked, said_making}
use Rattle.node_serve.specs.Ends.{is_stop}
use Rattle.node_serve.specs.Laws.{PlainLaws, PlainIsServed}
use Rattle.node_serve.specs.Plain.{size_of, piece_said, piece_passed, then_passed, passed_if, passed_from, passed_by, between_pieces, after_said, after_end, plain_piece, plain_event, plain_updated, plain_turn, plain_turns, last_world, CountsSessions, PlainFedAt, PlainActAt, PlainCameTo, PlainActedBy, PlainUpdatedUnless, PlainTurned, PlainServed}
use Rattle.node_serve.specs.Turns.{Turn, CameTo, ActedBy, Served}
use Rattle.node_serve.specs.World.{NodeState, Same, EndedAt, outside_at, others_open, one_if, open_below}
use Rattle.node_serve.specs.declared.session.Session.{Session}
use Rattle.node_serve.proofs.Counting.{counted-one, counted-same}
use Rattle.node_serve.proofs.NodeDoor.{node_cuts, node_laws}
use Rattle.node_serve.proofs.PlainUpdates.{plain-acts, set-by, set-here, set-other, acted-is, counted-at, around-after, acted-at, updated-is, updated-at, updated-by, updated-counted, updated-unfailed}

-- What stands after each act of a plain course.
module _ {H : Type 0} (said_of : LastKnown → H → Departure → Said H LastKnown) (is_request : H → Bool) (more : List ℕ → H → H) (size : H → ℕ) (door : CutDoor said_of is_request more size) where
  some-is : (h k : H) (o : Option H) → o ≡ Some h → o ≡ Some k → k ≡ h
  some-is h k o e f = cc

  open-now : (w : SessionState H LastKnown) (ms : List (SessionState H LastKnown)) (m v : SessionState H LastKnown) → PlainRequests said_of is_request w ms m → PlainLast said_of is_request m v → (k : H) × (w.held ≡ Some k)
  open-now w [] m v each last = (last.before, subst (λ (t : SessionState H LastKnown). t.held ≡ Some last.before) each last.step.held)
  open-now w (x ∷ xs) m v each last = (each.0.0, each.0.2.held)

  passed-at : (n : ℕ) (a : LastKnown) (h : H) (b : Bool) → is_request h ≡ b → passed_from said_of is_request (suc n) a h ≡ passed_if b (said_of a h Plain) a (passed_from said_of is_request n)
  passed-at n a h b e = ap (λ (t : Bool). passed_if t (said_of a h Plain) a (passed_from said_of is_request n)) e

  passed-next : (n : ℕ) (s : Said H LastKnown) (o : Option H) → s.next ≡ o → then_passed s.next s.after (passed_from said_of is_request n) ≡ then_passed o s.after (passed_from said_of is_request n)
  passed-next n s o e = ap (λ (p : Option H). then_passed p s.after (passed_from said_of is_request n)) e

  passed-last : (n : ℕ) (h : H) (w v : SessionState H LastKnown) → size h < n → w.held ≡ Some h → PlainLast said_of is_request w v → v.after ∷ [] ≡ passed_from said_of is_request n w.after h
  passed-last zero h w v less held last = absurd (omega arith)
  passed-last (suc n) h w v less held last = by (is_request h) refl last.ends
    where
      same : last.before ≡ h
      same = some-is h last.before w.held held last.step.held

      done : PlainActs (said_of w.after h Plain) w.outside v.held v.after v.outside
      done = subst (λ (k : H). PlainActs (said_of w.after k Plain) w.outside v.held v.after v.outside) same last.step.acts

      by : (b : Bool) → is_request h ≡ b → (v.held ≡ None) ⊎ (is_request last.before ≡ false) → v.after ∷ [] ≡ passed_from said_of is_request (suc n) w.after h
      by false e ends = ap (λ (a : LastKnown). a ∷ []) (done.whole.after_is ∙ ap (λ (s : Said H LastKnown). s.after) (door.rest_plain w.after h e)) ∙ sym (passed-at n w.after h false e)
      by true e (inl none) = ap (λ (a : LastKnown). a ∷ []) done.whole.after_is ∙ sym (passed-next n (said_of w.after h Plain) None (sym done.whole.held_is ∙ none)) ∙ sym (passed-at n w.after h true e)
      by true e (inr rest) = absurd (false≢true (sym (subst (λ (k : H). is_request k ≡ false) same rest) ∙ e))

  passed-fed : (ms : List (SessionState H LastKnown)) (n : ℕ) (h : H) (w m v : SessionState H LastKnown) → size h < n → w.held ≡ Some h → PlainRequests said_of is_request w ms m → PlainLast said_of is_request m v
      → afters (ms ++ v ∷ []) ≡ passed_from said_of is_request n w.after h
  passed-fed [] n h w m v less held each last = passed-last n h w v less held (subst (λ (t : SessionState H LastKnown). PlainLast said_of is_request t v) each last)
  passed-fed (x ∷ xs) zero h w m v less held each last = absurd (omega arith)
  passed-fed (x ∷ xs) (suc n) h w m v less held each last =
      let same : each.0.0 ≡ h = some-is h each.0.0 w.held held each.0.2.held in
      let request : is_request h ≡ true = subst (λ (k : H). is_request k ≡ true) same each.0.1 in
      let done : PlainActs (said_of w.after h Plain) w.outside x.held x.after x.outside = subst (λ (k : H). PlainActs (said_of w.after k Plain) w.outside x.held x.after x.outside) same each.0.2.acts in
      let left = open-now x xs m v each.1 last in
      let next_is : (said_of w.after h Plain).next ≡ Some left.0 = sym done.whole.held_is ∙ left.1 in
      let shorter = door.shorter w.after h left.0 request next_is in
      let later : afters (xs ++ v ∷ []) ≡ passed_from said_of is_request n x.after left.0 = passed-fed xs n left.0 x m v (omega arith) left.1 each.1 last in
      let joined : x.after ∷ afters (xs ++ v ∷ []) ≡ (said_of w.after h Plain).after ∷ passed_from said_of is_request n (said_of w.after h Plain).after left.0 = ap (λ (ss : List LastKnown). x.after ∷ ss) later
      ∙ ap (λ (a : LastKnown). a ∷ passed_from said_of is_request n a left.0) done.whole.after_is in
      joined ∙ sym (passed-next n (said_of w.after h Plain) (Some left.0) next_is) ∙ sym (passed-at n w.after h true request)

  pub passed-by : (h : H) (w v : SessionState H LastKnown) → w.held ≡ Some h → (fed : PlainFed said_of is_request w v) → afters (fed.0 ++ v ∷ []) ≡ passed_by said_of is_request size w.after h
  unfolding passed_by
  passed-by h w v held fed = passed-fed fed.0 (suc (size h)) h w fed.1 v (omega arith) held fed.2 fed.3

-- A plain course is a course.
module _ {H A : Type 0} (said_of : A → H → Departure → Said H A) (is_request : H → Bool) where
  plain-step : (h : H) (w m : SessionState H A) → PlainStep said_of is_request h w m → SessionStep said_of is_request h w m
  plain-step h w m step = record { held = step.held; acts = plain-acts (said_of w.after h) w.outside m.held m.after m.outside step.acts }

  pub plain-each : (w : SessionState H A) (ms : List (SessionState H A)) (m : SessionState H A) → PlainRequests said_of is_request w ms m → Requests said_of is_request w ms m
  plain-each w [] m each = each
  plain-each w (x ∷ xs) m each = ((each.0.0, each.0.1, plain-step each.0.0 w x each.0.2), plain-each x xs m each.1)

  pub plain-last : (w v : SessionState H A) → PlainLast said_of is_request w v → Last said_of is_request w v
  plain-last w v last = record { before = last.before; step = plain-step last.before w v last.step; ends = elim last.ends [ inl none ↦ inl none | inr rest ↦ inr (rest, last.step.acts.disk_kept) ] }

-- A piece.

fed-acts : (moment c : ℕ) (start : Session) (piece : List ℕ) (w : NodeState) (passed : List LastKnown) (v : NodeState) → PlainFedAt moment c start piece w passed v → PlainActAt c (between_pieces (piece_said moment w.standing (Came start piece))) w v
fed-acts moment c start piece w passed v fed =
    let laws = node_laws moment in
    let from : SessionState SessionAtWork LastKnown = talk (Some (Came start piece)) w.standing (outside_at c w.out) in
    let to : SessionState SessionAtWork LastKnown = talk fed.held v.standing (outside_at c v.out) in
    let acts : PlainActs (piece_said moment w.standing (Came start piece)) from.outside fed.held v.standing to.outside = (laws.by_rules (Came start piece) from to refl).0 (fed.acts, fed.before, fed.each, fed.last) in
    record {
      acts = record {
        disk_kept = acts.disk_kept;
        whole = record { held_is = fed.rest_is ∙ ap rest_if acts.whole.held_is; after_is = acts.whole.after_is; out_is = acts.whole.out_is; lost_kept = acts.whole.lost_kept };
      };
      around = fed.around;
    }

fed-passed : (moment c : ℕ) (start : Session) (piece : List ℕ) (w : NodeState) (passed : List LastKnown) (v : NodeState) → PlainFedAt moment c start piece w passed v → passed ≡ piece_passed moment w.standing (Came start piece)
fed-passed moment c start piece w passed v fed =
    let from : SessionState SessionAtWork LastKnown = talk (Some (Came start piece)) w.standing (outside_at c w.out) in
    let to : SessionState SessionAtWork LastKnown = talk fed.held v.standing (outside_at c v.out) in
    fed.passed_is ∙ passed-by (said moment) is_asked more_bytes size_of (node_cuts moment) (Came start piece) from to refl (fed.acts, fed.before, fed.each, fed.last)

fed-at : (moment c : ℕ) (start : Session) (piece : List ℕ) (w : NodeState) → CountsSessions w
    → PlainFedAt moment c start piece w (piece_passed moment w.standing (Came start piece)) (after_said c (between_pieces (piece_said moment w.standing (Came start piece))) w)
fed-at moment c start piece w counted =
    let laws = node_laws moment in
    let s : Said SessionAtWork LastKnown = piece_said moment w.standing (Came start piece) in
    let v : NodeState = after_said c (between_pieces s) w in
    let from : SessionState SessionAtWork LastKnown = talk (Some (Came start piece)) w.standing (outside_at c w.out) in
    let to : SessionState SessionAtWork LastKnown = talk s.next s.after (outside_at c v.out) in
    let acts : PlainActs s from.outside s.next s.after to.outside = record {
      disk_kept = refl;
      whole = record { held_is = refl; after_is = refl; out_is = set-here c (plus (w.out.taken c) s.words) w.out.taken; lost_kept = refl };
    } in
    let fed : PlainFed (said moment) is_asked from to = (laws.by_rules (Came start piece) from to refl).1 acts in
    record {
      held = s.next;
      acts = fed.0;
      before = fed.1;
      each = fed.2;
      last = fed.3;
      rest_is = set-here c (rest_if s.next) w.session;
      around = around-after c (between_pieces s) w counted;
      passed_is = sym (passed-by (said moment) is_asked more_bytes size_of (node_cuts moment) (Came start piece) from to refl fed);
    }

-- An end, and nothing.

ended-is : (c : ℕ) (w v : NodeState) → EndedAt c w v → v ≡ after_end c w
ended-is c w v ended =
    let count = ended.count in
    let fewer : v.count ≡ w.count - one_if (w.session c) = omega (arith, count) in
    λ i. record { standing = ended.standing i; session = λ (d : ℕ). set-by c None w.session v.session d ended.gone ended.sessions i; count = fewer i; out = ended.out i }

ended-at : (c : ℕ) (w : NodeState) → CountsSessions w → EndedAt c w (after_end c w)
ended-at c w counted =
    let few = counted-at c w counted in
    record { standing = refl; gone = set-here c None w.session; sessions = set-other c None w.session; count = omega (arith, few); out = refl }

same-is : (w v : NodeState) → Same w v → v ≡ w
same-is w v same = λ i. record { standing = same.standing i; session = λ (d : ℕ). same.sessions d i; count = same.count i; out = same.out i }

same-at : (w : NodeState) → Same w w
same-at w = record { standing = refl; sessions = λ d. refl; count = refl; out = refl }

-- One event.

came-is : (start : Option Session) (moment c : ℕ) (piece : List ℕ) (w : NodeState) (passed : List LastKnown) (v : NodeState) → PlainCameTo start moment c piece w passed v → (passed ≡ (plain_piece start moment c piece w).passed) × (v ≡ (plain_piece start moment c piece w).after)
came-is None moment c piece w passed v came = (came.1, same-is w v came.0)
came-is (Some start) moment c piece w passed v came = (fed-passed moment c start piece w passed v came, acted-is c (between_pieces (piece_said moment w.standing (Came start piece))) w v (fed-acts moment c start piece w passed v came))

event-is : (x : What) (moment : ℕ) (piece : List ℕ) (w : NodeState) (passed : List LastKnown) (v : NodeState) → PlainActedBy x moment piece w passed v → (passed ≡ (plain_event x moment piece w).passed) × (v ≡ (plain_event x moment piece w).after)
event-is (what.Opened c door) moment piece w passed v t = (t.1, acted-is c (said_making moment door (others_open c w) w.standing Plain) w v t.0)
event-is (what.Bytes c len) moment piece w passed v t = came-is (w.session c) moment c piece w passed v t
event-is (what.Ended c) moment piece w passed v t = (t.1, ended-is c w v t.0)
event-is what.Quiet moment piece w passed v t = (t.1, same-is w v t.0)
event-is what.Stop moment piece w passed v t = (t.1, same-is w v t.0)

came-at : (start : Option Session) (moment c : ℕ) (piece : List ℕ) (w : NodeState) → CountsSessions w → PlainCameTo start moment c piece w (plain_piece start moment c piece w).passed (plain_piece start moment c piece w).after
came-at None moment c piece w counted = (same-at w, refl)
came-at (Some start) moment c piece w counted = fed-at moment c start piece w counted

event-at : (x : What) (moment : ℕ) (piece : List ℕ) (w : NodeState) → CountsSessions w → PlainActedBy x moment piece w (plain_event x moment piece w).passed (plain_event x moment piece w).after
event-at (what.Opened c door) moment piece w counted = (acted-at c (said_making moment door (others_open c w) w.standing Plain) w counted, refl)
event-at (what.Bytes c len) moment piece w counted = came-at (w.session c) moment c piece w counted
event-at (what.Ended c) moment piece w counted = (ended-at c w counted, refl)
event-at what.Quiet moment piece w counted = (same-at w, refl)
event-at what.Stop moment piece w counted = (same-at w, refl)

came-acted : (start : Option Session) (moment c : ℕ) (piece : List ℕ) (w : NodeState) (passed : List LastKnown) (v : NodeState) → PlainCameTo start moment c piece w passed v → CameTo start moment c piece w passed v
came-acted None moment c piece w passed v came = came
came-acted (Some start) moment c piece w passed v fed = record {
  held = fed.held;
  acts = fed.acts;
  before = fed.before;
  each = plain-each (said moment) is_asked (talk (Some (Came start piece)) w.standing (outside_at c w.out)) fed.acts fed.before fed.each;
  last = plain-last (said moment) is_asked fed.before (talk fed.held v.standing (outside_at c v.out)) fed.last;
  rest_is = fed.rest_is;
  around = fed.around;
  passed_is = fed.passed_is;
}

event-acted : (x : What) (moment : ℕ) (piece : List ℕ) (w : NodeState) (passed : List LastKnown) (v : NodeState) → PlainActedBy x moment piece w passed v → ActedBy x moment piece w passed v
event-acted (what.Opened c door) moment piece w passed v t = (record { acts = plain-acts (said_making moment door (others_open c w) w.standing) (outside_at c w.out) (v.session c) v.standing (outside_at c v.out) t.0.acts; around = t.0.around }, t.1)
event-acted (what.Bytes c len) moment piece w passed v t = came-acted (w.session c) moment c piece w passed v t
event-acted (what.Ended c) moment piece w passed v t = t
event-acted what.Quiet moment piece w passed v t = t
event-acted what.Stop moment piece w passed v t = t

-- Neither the disk nor a send fails.

piece-unfailed : (start : Option Session) (moment c : ℕ) (piece : List ℕ) (w : NodeState) → ((plain_piece start moment c piece w).after.out.disk ≡ w.out.disk) × ((plain_piece start moment c piece w).after.out.lost ≡ w.out.lost)
piece-unfailed None moment c piece w = (refl, refl)
piece-unfailed (Some start) moment c piece w = (refl, refl)

event-unfailed : (x : What) (moment : ℕ) (piece : List ℕ) (w : NodeState) → ((plain_event x moment piece w).after.out.disk ≡ w.out.disk) × ((plain_event x moment piece w).after.out.lost ≡ w.out.lost)
event-unfailed (what.Opened c door) moment piece w = (refl, refl)
event-unfailed (what.Bytes c len) moment piece w = piece-unfailed (w.session c) moment c piece w
event-unfailed (what.Ended c) moment piece w = (refl, refl)
event-unfailed what.Quiet moment piece w = (refl, refl)
event-unfailed what.Stop moment piece w = (refl, refl)

-- The count of open sessions.

counted-came : (start : Option Session) (moment c : ℕ) (piece : List ℕ) (w : NodeState) (passed : List LastKnown) (v : NodeState) → PlainCameTo start moment c piece w passed v → CountsSessions w → CountsSessions v
counted-came None moment c piece w passed v came counted = counted-same w v (same-is w v came.0) counted
counted-came (Some start) moment c piece w passed v fed counted = counted-one c w v fed.around.sessions fed.around.count counted

counted-event : (x : What) (moment : ℕ) (piece : List ℕ) (w : NodeState) (passed : List LastKnown) (v : NodeState) → PlainActedBy x moment piece w passed v → CountsSessions w → CountsSessions v
counted-event (what.Opened c door) moment piece w passed v t counted = counted-one c w v t.0.around.sessions t.0.around.count counted
counted-event (what.Bytes c len) moment piece w passed v t counted = counted-came (w.session c) moment c piece w passed v t counted
counted-event (what.Ended c) moment piece w passed v t counted =
    let gone : one_if (v.session c) ≡ 0 = ap (λ (x : Option Session). one_if x) t.0.gone in
    let count = t.0.count in
    counted-one c w v t.0.sessions (omega (arith, count, gone)) counted
counted-event what.Quiet moment piece w passed v t counted = counted-same w v (same-is w v t.0) counted
counted-event what.Stop moment piece w passed v t counted = counted-same w v (same-is w v t.0) counted

-- A world without sessions counts none too few.
pub none-counted : (w : NodeState) → ((c : ℕ) → w.session c ≡ None) → CountsSessions w
none-counted w none n = let zero : open_below n w.session ≡ 0 = count n in omega (arith, zero)
  where
    count : (n : ℕ) → open_below n w.session ≡ 0
    count zero = refl
    count (suc n) =
        let rest = count n in
        let here : one_if (w.session n) ≡ 0 = ap (λ (x : Option Session). one_if x) (none n) in
        omega (arith, rest, here)

-- One event with its updates: the acts' world is that of the function, and so are the updates from there.
turn-is : (e : Arrival) (w : NodeState) (t : Turn) → PlainTurned e w t → t ≡ plain_turn e w
turn-is e w t turned =
    let stops : Bool = is_stop e.0.what in
    let acted = event-is e.0.what e.0.moment e.1 w t.passed t.between turned.0 in
    let updated = updated-is stops t.between t.reopened t.after turned.1 in
    let reopened : t.reopened ≡ (plain_turn e w).reopened = updated.0 ∙ ap (λ (x : NodeState). (plain_updated stops x).passed) acted.1 in
    let after : t.after ≡ (plain_turn e w).after = updated.1 ∙ ap (λ (x : NodeState). (plain_updated stops x).after) acted.1 in
    λ i. record { passed = acted.0 i; between = acted.1 i; reopened = reopened i; after = after i }

-- Events in order.

served-made : (es : List Arrival) (w : NodeState) → CountsSessions w → PlainServed es w (plain_turns es w) (last_world w (plain_turns es w))
served-made [] w counted = refl
served-made (e ∷ es) w counted =
    let t : Turn = plain_turn e w in
    let stops : Bool = is_stop e.0.what in
    let acted : PlainActedBy e.0.what e.0.moment e.1 w t.passed t.between = event-at e.0.what e.0.moment e.1 w counted in
    let between : CountsSessions t.between = counted-event e.0.what e.0.moment e.1 w t.passed t.between acted counted in
    let updated : PlainUpdatedUnless stops t.between t.reopened t.after = updated-at stops t.between between in
    let after : CountsSessions t.after = updated-counted stops t.between t.reopened t.after (updated-by stops t.between t.reopened t.after updated) between in
    ((acted, updated), served-made es t.after after)

served-only : (es : List Arrival) (w : NodeState) (ts : List Turn) (v : NodeState) → PlainServed es w ts v → (ts ≡ plain_turns es w) × (v ≡ last_world w ts)
served-only [] w [] v run = (refl, run)
served-only [] w (t ∷ ts) v never = absurd never
served-only (e ∷ es) w [] v never = absurd never
served-only (e ∷ es) w (t ∷ ts) v run =
    let first : t ≡ plain_turn e w = turn-is e w t run.0 in
    let later = served-only es t.after ts v run.1 in
    let rest : ts ≡ plain_turns es (plain_turn e w).after = later.0 ∙ ap (λ (u : Turn). plain_turns es u.after) first in
    (ap (λ (u : Turn). u ∷ ts) first ∙ ap (λ (us : List Turn). plain_turn e w ∷ us) rest, later.1)

served-by : (es : List Arrival) (w : NodeState) (ts : List Turn) (v : NodeState) → PlainServed es w ts v → Served es w ts v
served-by [] w [] v run = run
served-by [] w (t ∷ ts) v never = absurd never
served-by (e ∷ es) w [] v never = absurd never
served-by (e ∷ es) w (t ∷ ts) v run = (
  (event-acted e.0.what e.0.moment e.1 w t.passed t.between run.0.0, updated-by (is_stop e.0.what) t.between t.reopened t.after run.0.1),
  served-by es t.after ts v run.1,
)

served-unfailed : (es : List Arrival) (w : NodeState) (ts : List Turn) (v : NodeState) → PlainServed es w ts v → (v.out.disk ≡ w.out.disk) × (v.out.lost ≡ w.out.lost)
served-unfailed [] w [] v run = (ap (λ (x : NodeState). x.out.disk) run, ap (λ (x : NodeState). x.out.lost) run)
served-unfailed [] w (t ∷ ts) v never = absurd never
served-unfailed (e ∷ es) w [] v never = absurd never
served-unfailed (e ∷ es) w (t ∷ ts) v run =
    let is : t ≡ plain_turn e w = turn-is e w t run.0 in
    let acts = event-unfailed e.0.what e.0.moment e.1 w in
    let updates = updated-unfailed (is_stop e.0.what) (plain_turn e w).between in
    let later = served-unfailed es t.after ts v run.1 in
    (later.0 ∙ ap (λ (u : Turn). u.after.out.disk) is ∙ updates.0 ∙ acts.0, later.1 ∙ ap (λ (u : Turn). u.after.out.lost) is ∙ updates.1 ∙ acts.1)

pub plain-laws : PlainLaws
plain-laws = record { made = served-made; only = served-only; served = served-by; unfailed = served-unfailed }

-- So the plain function serves events without a failure.
pub plain-served : PlainIsServed
plain-served es w counted =
    let made = served-made es w counted in
    let kept = served-unfailed es w (plain_turns es w) (last_world w (plain_turns es w)) made in
    (served-by es w (plain_turns es w) (last_world w (plain_turns es w)) made, kept.0, kept.1)
