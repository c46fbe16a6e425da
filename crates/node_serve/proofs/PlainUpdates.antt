-- Updates of sessions that idle: what each changes; and by the rules they are a function of the world, as each act at one connection is.
use Rattle.std.proofs.Common.{◌≡◌, ◌⊎◌, ◌≤◌, ◌+◌, ◌-◌, ◌==◌, ℕ, zero, suc, Bool, true, false, List, Option, Some, None, refl, sym, ap, subst, ◌∙◌, arith, inl, inr, if◌then◌else◌}
use Rattle.std.proofs.lemmas.Bool.Decides.{nat_tests}
use Rattle.edge_io.specs.Hosts.{OthersKept}
use Rattle.edge_io.specs.Taken.{plus}
use Rattle.line_door.specs.Acts.{ConnectionState, Said, Departure, Plain, PlainActs, Acts}
use Rattle.arch_model.specs.Standing.{LastKnown}
use Rattle.node_serve.specs.Plain.{set_at, after_said, update_if, update_of, plain_update, plain_updates, opened_plainly, plain_updated_if, plain_updated, CountsSessions, PlainActAt, PlainUpdateBy, PlainUpdateAt, PlainUpdatedIf, PlainUpdatedUnless}
use Rattle.node_serve.specs.Updates.{connection_limit, idles, idles_if, any_idles, EachBelow, IfIdles, said_update, UpdateAct, UpdateBy, UpdateAt, EachIf, UpdatedThrough, UpdatedIf, UpdatedUnless}
use Rattle.node_serve.specs.World.{NodeState, outer, Around, outside_at, one_if, closed_if, closed_at_if, open_below}
use Rattle.node_serve.specs.declared.session.Session.{Session}
use Rattle.node_serve.proofs.Counting.{update-cases, counted-one, counted-same}

-- A plain act is an act by the rules.
pub plain-acts : {H A : Type 0} (words : Departure → Said H A) (i : ConnectionState) (held : Option H) (a : A) (j : ConnectionState) → PlainActs (words Plain) i held a j → Acts words i held a j
plain-acts words i held a j acts = record { way = Plain; cause = acts.disk_kept; disk_later = omega (arith, acts.disk_kept); lost_later = omega (arith, acts.whole.lost_kept); sent = inl acts.whole }

-- A function that is so at one number, and stays at the others.
pub set-by : {X : Type 0} (c : ℕ) (x : X) (f g : ℕ → X) (d : ℕ) → g c ≡ x → OthersKept c f g → g d ≡ set_at c x f d
set-by {X} c x f g d here others = by (d == c) refl
  where
    by : (t : Bool) → (d == c) ≡ t → g d ≡ (if t then x else f d)
    by true e = let same : d ≡ c = grind (arith, nat_tests, e) in ap g same ∙ here
    by false e = others d (λ same. (grind (arith, nat_tests, e, same)))

-- The value at the number itself.
pub set-here : {X : Type 0} (c : ℕ) (x : X) (f : ℕ → X) → set_at c x f c ≡ x
set-here {X} c x f = by (c == c) refl
  where
    by : (t : Bool) → (c == c) ≡ t → (if t then x else f c) ≡ x
    by true e = refl
    by false e = absurd (grind (arith, nat_tests, e))

-- The values at other numbers.
pub set-other : {X : Type 0} (c : ℕ) (x : X) (f : ℕ → X) → OthersKept c f (set_at c x f)
set-other {X} c x f d other = by (d == c) refl
  where
    by : (t : Bool) → (d == c) ≡ t → (if t then x else f d) ≡ f d
    by true e = absurd (other (grind (arith, nat_tests, e)))
    by false e = refl

-- A world of these parts.
world-is : (v : NodeState) (a : LastKnown) (f : ℕ → Option Session) (n : ℕ) (t : ℕ → Option (List ℕ)) (c : ℕ → Option ℕ) (disk lost : ℕ) (e : ℕ → Option (List ℕ)) → v.standing ≡ a → ((d : ℕ) → v.session d ≡ f d) → v.count ≡ n → ((d : ℕ) → v.out.taken d ≡ t d) → ((d : ℕ) → v.out.closings d ≡ c d) → v.out.disk ≡ disk → v.out.lost ≡ lost → ((d : ℕ) → v.out.closed_at d ≡ e d)
    → v ≡ record { standing = a; session = f; count = n; out = outer t c disk lost e }
world-is v a f n t c disk lost e p q r x y z l k = λ i. record {
  standing = p i;
  session = λ (d : ℕ). q d i;
  count = r i;
  out = record { taken = λ (d : ℕ). x d i; closings = λ (d : ℕ). y d i; disk = z i; lost = l i; closed_at = λ (d : ℕ). k d i };
}

-- An act by the rules leaves the world that the function gives.
pub acted-is : (c : ℕ) (s : Said Session LastKnown) (w v : NodeState) → PlainActAt c s w v → v ≡ after_said c s w
acted-is c s w v act =
    let whole = act.acts.whole in
    let around = act.around in
    let now : one_if (v.session c) ≡ one_if s.next = ap (λ (x : Option Session). one_if x) whole.held_is in
    let count = around.count in
    let closed_at : v.out.closed_at c ≡ closed_at_if s.next (plus (w.out.taken c) s.words) (w.out.closed_at c) =
    around.closed_at ∙ ap (λ (x : Option Session). closed_at_if x (v.out.taken c) (w.out.closed_at c)) whole.held_is ∙ ap (λ (t : Option (List ℕ)). closed_at_if s.next t (w.out.closed_at c)) whole.out_is in
    world-is v s.after (set_at c s.next w.session) ((w.count + one_if s.next) - one_if (w.session c)) (set_at c (plus (w.out.taken c) s.words) w.out.taken) (set_at c (closed_if s.next (w.out.closings c)) w.out.closings) w.out.disk w.out.lost
    (set_at c (closed_at_if s.next (plus (w.out.taken c) s.words) (w.out.closed_at c)) w.out.closed_at) whole.after_is (λ d. set-by c s.next w.session v.session d whole.held_is around.sessions) (omega (arith, count, now))
    (λ d. set-by c (plus (w.out.taken c) s.words) w.out.taken v.out.taken d whole.out_is around.taken)
    (λ d. set-by c (closed_if s.next (w.out.closings c)) w.out.closings v.out.closings d (around.closed ∙ ap (λ (x : Option Session). closed_if x (w.out.closings c)) whole.held_is) around.closings) act.acts.disk_kept whole.lost_kept
    (λ d. set-by c (closed_at_if s.next (plus (w.out.taken c) s.words) (w.out.closed_at c)) w.out.closed_at v.out.closed_at d closed_at around.closed_at_others)

-- A session that is open is counted.
pub counted-at : (c : ℕ) (w : NodeState) → CountsSessions w → one_if (w.session c) ≤ w.count
counted-at c w counted = let all : open_below c w.session + one_if (w.session c) ≤ w.count = counted (suc c) in omega (arith, all)

-- What the function leaves around the connection.
pub around-after : (c : ℕ) (s : Said Session LastKnown) (w : NodeState) → CountsSessions w → Around c w (after_said c s w)
around-after c s w counted =
    let here = set-here c s.next w.session in
    let now : one_if (set_at c s.next w.session c) ≡ one_if s.next = ap (λ (x : Option Session). one_if x) here in
    let few = counted-at c w counted in
    let said : Option (List ℕ) = plus (w.out.taken c) s.words in
    record {
      sessions = set-other c s.next w.session;
      taken = set-other c (plus (w.out.taken c) s.words) w.out.taken;
      closings = set-other c (closed_if s.next (w.out.closings c)) w.out.closings;
      closed = set-here c (closed_if s.next (w.out.closings c)) w.out.closings ∙ sym (ap (λ (x : Option Session). closed_if x (w.out.closings c)) here);
      count = omega (arith, now, few);
      closed_at = set-here c (closed_at_if s.next said (w.out.closed_at c)) w.out.closed_at ∙ sym (ap (λ (x : Option Session). closed_at_if x said (w.out.closed_at c)) here)
          ∙ sym (ap (λ (t : Option (List ℕ)). closed_at_if (set_at c s.next w.session c) t (w.out.closed_at c)) (set-here c said w.out.taken));
      closed_at_others = set-other c (closed_at_if s.next said (w.out.closed_at c)) w.out.closed_at;
    }

-- What the function says there.
acts-after : (c : ℕ) (s : Said Session LastKnown) (w : NodeState) → PlainActs s (outside_at c w.out) ((after_said c s w).session c) s.after (outside_at c (after_said c s w).out)
acts-after c s w = record {
  disk_kept = refl;
  whole = record { held_is = set-here c s.next w.session; after_is = refl; out_is = set-here c (plus (w.out.taken c) s.words) w.out.taken; lost_kept = refl };
}

-- So the function is an act by the rules.
pub acted-at : (c : ℕ) (s : Said Session LastKnown) (w : NodeState) → CountsSessions w → PlainActAt c s w (after_said c s w)
acted-at c s w counted = record { acts = acts-after c s w; around = around-after c s w counted }

-- An update leaves the sessions of other connections.
pub update-kept : (c : ℕ) (w v : NodeState) → UpdateAt c w v → OthersKept c w.session v.session
update-kept c w v update = by (update-cases c w v update)
  where
    by : ((v ≡ w) × (idles_if (w.session c) ≡ false)) ⊎ ((start : Session) × (w.session c ≡ Some start) × (idles start ≡ true) × UpdateAct start c w v) → OthersKept c w.session v.session
    by (inl still) d other = ap (λ (x : NodeState). x.session d) still.0
    by (inr told) d other = told.3.0.around.sessions d other

-- After an update at least as many sessions are counted as are open.
pub update-counted : (c : ℕ) (w v : NodeState) → UpdateAt c w v → CountsSessions w → CountsSessions v
update-counted c w v update counted = by (update-cases c w v update)
  where
    by : ((v ≡ w) × (idles_if (w.session c) ≡ false)) ⊎ ((start : Session) × (w.session c ≡ Some start) × (idles start ≡ true) × UpdateAct start c w v) → CountsSessions v
    by (inl still) = counted-same w v still.0 counted
    by (inr told) = counted-one c w v told.3.0.around.sessions told.3.0.around.count counted

-- After updates at least as many sessions are counted as are open.
pub each-counted : (n : ℕ) (w v : NodeState) → EachBelow UpdateAt n w v → CountsSessions w → CountsSessions v
each-counted zero w v same counted = counted-same w v same counted
each-counted (suc c) w v each counted = update-counted c each.0 v each.2 (each-counted c w each.0 each.1 counted)

-- The same where the archive is open.
all-counted : (opened : Bool) (w v : NodeState) → EachIf opened w v → CountsSessions w → CountsSessions v
all-counted true w v each counted = each-counted connection_limit w v each counted
all-counted false w v same counted = counted-same w v same counted

-- The same of the updates after an event.
pub updated-counted : (stops : Bool) (w : NodeState) (reopened : List LastKnown) (v : NodeState) → UpdatedUnless stops w reopened v → CountsSessions w → CountsSessions v
updated-counted true w reopened v updated counted = counted-same w v updated.0 counted
updated-counted false w reopened v updated counted = by (any_idles w.session) updated
  where
    through : UpdatedThrough w reopened v → CountsSessions v
    through u = all-counted u.opened u.refreshed v u.each (subst (λ (x : NodeState). CountsSessions x) (sym u.reopening_is.world_is) counted)

    by : (b : Bool) → UpdatedIf b w reopened v → CountsSessions v
    by true u = through u
    by false u = counted-same w v u.0 counted

-- An update by the rules leaves the world that the function gives.
plain-update-is : (c : ℕ) (w v : NodeState) → PlainUpdateAt c w v → v ≡ plain_update c w
plain-update-is c w v update = by (w.session c) update
  where
    told : (b : Bool) (start : Session) → IfIdles b (PlainActAt c (said_update w.standing start Plain) w v) w v → v ≡ update_if b start c w
    told true start act = acted-is c (said_update w.standing start Plain) w v act
    told false start is = is

    by : (held : Option Session) → PlainUpdateBy held c w v → v ≡ update_of held c w
    by None is = is
    by (Some start) act = told (idles start) start act

-- The function is an update by the rules.
plain-update-at : (c : ℕ) (w : NodeState) → CountsSessions w → PlainUpdateAt c w (plain_update c w)
plain-update-at c w counted = by (w.session c)
  where
    told : (b : Bool) (start : Session) → IfIdles b (PlainActAt c (said_update w.standing start Plain) w (update_if b start c w)) w (update_if b start c w)
    told true start = acted-at c (said_update w.standing start Plain) w counted
    told false start = refl

    by : (held : Option Session) → PlainUpdateBy held c w (update_of held c w)
    by None = refl
    by (Some start) = told (idles start) start

-- An update by the rules is an update.
plain-update-by : (c : ℕ) (w v : NodeState) → PlainUpdateAt c w v → UpdateAt c w v
plain-update-by c w v update = by (w.session c) update
  where
    act-by : (start : Session) → PlainActAt c (said_update w.standing start Plain) w v → UpdateAct start c w v
    act-by start act = (record { acts = plain-acts (said_update w.standing start) (outside_at c w.out) (v.session c) v.standing (outside_at c v.out) act.acts; around = act.around }, act.acts.disk_kept)

    told : (b : Bool) (start : Session) → IfIdles b (PlainActAt c (said_update w.standing start Plain) w v) w v → IfIdles b (UpdateAct start c w v) w v
    told true start act = act-by start act
    told false start is = is

    by : (held : Option Session) → PlainUpdateBy held c w v → UpdateBy held c w v
    by None is = is
    by (Some start) act = told (idles start) start act

-- In it neither the disk nor a send fails.
plain-update-unfailed : (c : ℕ) (w : NodeState) → ((plain_update c w).out.disk ≡ w.out.disk) × ((plain_update c w).out.lost ≡ w.out.lost)
plain-update-unfailed c w = by (w.session c)
  where
    told : (b : Bool) (start : Session) → ((update_if b start c w).out.disk ≡ w.out.disk) × ((update_if b start c w).out.lost ≡ w.out.lost)
    told true start = (refl, refl)
    told false start = (refl, refl)

    by : (held : Option Session) → ((update_of held c w).out.disk ≡ w.out.disk) × ((update_of held c w).out.lost ≡ w.out.lost)
    by None = (refl, refl)
    by (Some start) = told (idles start) start

-- Updates by the rules leave the world that the function gives.
plain-each-is : (n : ℕ) (w v : NodeState) → EachBelow PlainUpdateAt n w v → v ≡ plain_updates n w
plain-each-is zero w v same = same
plain-each-is (suc c) w v each = plain-update-is c each.0 v each.2 ∙ ap (plain_update c) (plain-each-is c w each.0 each.1)

-- Updates by the rules are updates.
plain-each-by : (n : ℕ) (w v : NodeState) → EachBelow PlainUpdateAt n w v → EachBelow UpdateAt n w v
plain-each-by zero w v same = same
plain-each-by (suc c) w v each = (each.0, plain-each-by c w each.0 each.1, plain-update-by c each.0 v each.2)

-- The function gives updates by the rules.
plain-each-at : (n : ℕ) (w : NodeState) → CountsSessions w → EachBelow PlainUpdateAt n w (plain_updates n w)
plain-each-at zero w counted = refl
plain-each-at (suc c) w counted =
    let m : NodeState = plain_updates c w in
    let before : EachBelow PlainUpdateAt c w m = plain-each-at c w counted in
    (m, before, plain-update-at c m (each-counted c w m (plain-each-by c w m before) counted))

-- In them neither the disk nor a send fails.
plain-each-unfailed : (n : ℕ) (w : NodeState) → ((plain_updates n w).out.disk ≡ w.out.disk) × ((plain_updates n w).out.lost ≡ w.out.lost)
plain-each-unfailed zero w = (refl, refl)
plain-each-unfailed (suc c) w =
    let one = plain-update-unfailed c (plain_updates c w) in
    let before = plain-each-unfailed c w in
    (one.0 ∙ before.0, one.1 ∙ before.1)

-- Those after an event leave what the function gives.
pub updated-is : (stops : Bool) (w : NodeState) (reopened : List LastKnown) (v : NodeState) → PlainUpdatedUnless stops w reopened v → (reopened ≡ (plain_updated stops w).passed) × (v ≡ (plain_updated stops w).after)
updated-is true w reopened v updated = (updated.1, updated.0)
updated-is false w reopened v updated = by (any_idles w.session) updated
  where
    by : (b : Bool) → PlainUpdatedIf b w reopened v → (reopened ≡ (plain_updated_if b w).passed) × (v ≡ (plain_updated_if b w).after)
    by true u = (u.1, plain-each-is connection_limit (opened_plainly w) v u.0)
    by false u = (u.1, u.0)

-- The function gives those after an event.
pub updated-at : (stops : Bool) (w : NodeState) → CountsSessions w → PlainUpdatedUnless stops w (plain_updated stops w).passed (plain_updated stops w).after
updated-at true w counted = (refl, refl)
updated-at false w counted = by (any_idles w.session)
  where
    by : (b : Bool) → PlainUpdatedIf b w (plain_updated_if b w).passed (plain_updated_if b w).after
    by true = (plain-each-at connection_limit (opened_plainly w) counted, refl)
    by false = (refl, refl)

-- By the rules they are those after an event.
pub updated-by : (stops : Bool) (w : NodeState) (reopened : List LastKnown) (v : NodeState) → PlainUpdatedUnless stops w reopened v → UpdatedUnless stops w reopened v
updated-by true w reopened v updated = updated
updated-by false w reopened v updated = by (any_idles w.session) updated
  where
    by : (b : Bool) → PlainUpdatedIf b w reopened v → UpdatedIf b w reopened v
    by true u = record {
      opened = true;
      refreshed = opened_plainly w;
      reopening_is = record { way = Plain; cause = refl; disk_later = omega arith; opened_is = refl; world_is = refl };
      each = plain-each-by connection_limit (opened_plainly w) v u.0;
      reopened_is = u.1;
    }
    by false u = u

-- In those after an event neither the disk nor a send fails.
pub updated-unfailed : (stops : Bool) (w : NodeState) → ((plain_updated stops w).after.out.disk ≡ w.out.disk) × ((plain_updated stops w).after.out.lost ≡ w.out.lost)
updated-unfailed true w = (refl, refl)
updated-unfailed false w = by (any_idles w.session)
  where
    by : (b : Bool) → ((plain_updated_if b w).after.out.disk ≡ w.out.disk) × ((plain_updated_if b w).after.out.lost ≡ w.out.lost)
    by true = plain-each-unfailed connection_limit (opened_plainly w)
    by false = (refl, refl)
