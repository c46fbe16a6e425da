-- The count of open sessions.
use Rattle.std.proofs.Common.{◌≡◌, ◌≢◌, ◌≤◌, ◌<◌, ◌+◌, ℕ, zero, suc, Bool, true, false, List, [], ◌∷◌, Option, Some, None, refl, sym, ap, subst, ◌∙◌, arith, ◌⊎◌, inl, inr}
use Rattle.std.proofs.lemmas.Bool.{false≢true}
use Rattle.edge_io.specs.Hosts.{OthersKept}
use Rattle.edge_io.specs.Scripts.{Arrival}
use Rattle.edge_io.specs.declared.events.What.{What}
use Rattle.edge_io.specs.declared.events.What.TheVariants as what
use Rattle.arch_model.specs.Standing.{LastKnown}
use Rattle.node_serve.specs.Ends.{is_stop}
use Rattle.node_serve.specs.Laws.{HasConnectionBelow, AreBelow, NoneIdlesFrom, CountsOpen}
use Rattle.node_serve.specs.Plain.{CountsSessions}
use Rattle.node_serve.specs.Turns.{Turn, CameTo, ActedBy, Acted, Served}
use Rattle.node_serve.specs.Updates.{connection_limit, idles, idles_if, any_idles, EachBelow, IfIdles, UpdateAct, UpdateBy, UpdateAt, EachIf, UpdatedThrough, UpdatedIf, UpdatedUnless}
use Rattle.node_serve.specs.World.{NodeState, one_if, open_below}
use Rattle.node_serve.specs.declared.session.Session.{Session}

-- Where no session below a number changed, their count stays.
pub below-same : (n : ℕ) (f g : ℕ → Option Session) → ((d : ℕ) → d < n → g d ≡ f d) → open_below n g ≡ open_below n f
below-same zero f g same = refl
below-same (suc n) f g same =
    let rest = below-same n f g (λ d less. same d (omega (arith, less))) in
    let here : one_if (g n) ≡ one_if (f n) = ap (λ (x : Option Session). one_if x) (same n (omega arith)) in
    omega (arith, rest, here)

-- A number is this one, or another.
pub this-or : (c d : ℕ) → (d ≡ c) ⊎ (d ≢ c)
this-or zero zero = inl refl
this-or zero (suc d) = inr (λ e. absurd (omega (arith, e)))
this-or (suc c) zero = inr (λ e. absurd (omega (arith, e)))
this-or (suc c) (suc d) = by (this-or c d)
  where
    by : (d ≡ c) ⊎ (d ≢ c) → (suc d ≡ suc c) ⊎ (suc d ≢ suc c)
    by (inl e) = inl (ap suc e)
    by (inr no_e) = inr (λ e. no_e (omega (arith, e)))

-- A number is below another, or not.
pub less-or : (c n : ℕ) → (c < n) ⊎ (n ≤ c)
less-or c zero = inr (omega arith)
less-or zero (suc n) = inl (omega arith)
less-or (suc c) (suc n) = elim (less-or c n) [ inl less ↦ inl (omega (arith, less)) | inr more ↦ inr (omega (arith, more)) ]

-- One session changed.
pub below-one : (n c : ℕ) (f g : ℕ → Option Session) → c < n → OthersKept c f g → open_below n g + one_if (f c) ≡ open_below n f + one_if (g c)
below-one zero c f g less others = absurd (omega (arith, less))
below-one (suc n) c f g less others = by (λ low. below-one n c f g low others) (this-or c n)
  where
    by : (c < n → open_below n g + one_if (f c) ≡ open_below n f + one_if (g c)) → (n ≡ c) ⊎ (n ≢ c) → open_below (suc n) g + one_if (f c) ≡ open_below (suc n) f + one_if (g c)
    by below (inl e) =
        let rest = below-same n f g (λ d low. others d (λ is. (omega (arith, e, low, is)))) in
        let one : one_if (f n) ≡ one_if (f c) = ap (λ (m : ℕ). one_if (f m)) e in
        let two : one_if (g n) ≡ one_if (g c) = ap (λ (m : ℕ). one_if (g m)) e in
        omega (arith, rest, one, two)
    by below (inr apart) =
        let rest = below (let other : c ≢ n = (λ e. apart (sym e)) in omega (arith, less, other)) in
        let same : one_if (g n) ≡ one_if (f n) = ap (λ (x : Option Session). one_if x) (others n apart) in
        omega (arith, rest, same)

-- More numbers have no fewer sessions.
below-grows : (n c : ℕ) (f : ℕ → Option Session) → n ≤ c → open_below n f ≤ open_below c f
below-grows n zero f less = let none : n ≡ 0 = omega (arith, less) in let same : open_below n f ≡ open_below 0 f = ap (λ (m : ℕ). open_below m f) none in omega (arith, same)
below-grows n (suc c) f less = by (λ low. below-grows n c f low) (this-or (suc c) n)
  where
    by : (n ≤ c → open_below n f ≤ open_below c f) → (n ≡ suc c) ⊎ (n ≢ suc c) → open_below n f ≤ open_below (suc c) f
    by grows (inl e) = let same : open_below n f ≡ open_below (suc c) f = ap (λ (m : ℕ). open_below m f) e in omega (arith, same)
    by grows (inr apart) = let rest = grows (omega (arith, less, apart)) in omega (arith, rest)

-- An update is nothing, where no session idles there, or else an act.
pub update-cases : (c : ℕ) (w v : NodeState) → UpdateAt c w v → ((v ≡ w) × (idles_if (w.session c) ≡ false)) ⊎ ((start : Session) × (w.session c ≡ Some start) × (idles start ≡ true) × UpdateAct start c w v)
update-cases c w v update = by (w.session c) refl update
  where
    told : (start : Session) → w.session c ≡ Some start → (b : Bool) → idles start ≡ b → IfIdles b (UpdateAct start c w v) w v → ((v ≡ w) × (idles_if (w.session c) ≡ false)) ⊎ ((s : Session) × (w.session c ≡ Some s) × (idles s ≡ true) × UpdateAct s c w v)
    told start held true e act = inr (start, held, e, act)
    told start held false e is = inl (is, ap idles_if held ∙ e)

    by : (held : Option Session) → w.session c ≡ held → UpdateBy held c w v → ((v ≡ w) × (idles_if (w.session c) ≡ false)) ⊎ ((s : Session) × (w.session c ≡ Some s) × (idles s ≡ true) × UpdateAct s c w v)
    by None e is = inl (is, ap idles_if e)
    by (Some start) e act = told start e (idles start) refl act

-- The count is that of the open sessions below a number, and none from there on idles.
record CountedBelow (n : ℕ) (w : NodeState) : Type 0 where
  count : w.count ≡ open_below n w.session
  awake : NoneIdlesFrom n w

-- A change of one session below the number keeps that.
one-counts : (n c : ℕ) (w v : NodeState) → c < n → OthersKept c w.session v.session → v.count + one_if (w.session c) ≡ w.count + one_if (v.session c) → CountedBelow n w → CountedBelow n v
one-counts n c w v less others more old =
    let both = below-one n c w.session v.session less others in
    let before = old.count in
    record { count = omega (arith, both, more, before); awake = λ d from. ap idles_if (others d (λ is. (omega (arith, less, from, is)))) ∙ old.awake d from }

-- A world in which no session changed keeps it.
same-counts : (n : ℕ) (w v : NodeState) → ((d : ℕ) → v.session d ≡ w.session d) → v.count ≡ w.count → CountedBelow n w → CountedBelow n v
same-counts n w v same kept old = record { count = kept ∙ old.count ∙ sym (below-same n w.session v.session (λ d less. same d)); awake = λ d from. ap idles_if (same d) ∙ old.awake d from }

-- So does an equal world.
equal-counts : (n : ℕ) (w v : NodeState) → v ≡ w → CountedBelow n w → CountedBelow n v
equal-counts n w v same old = subst (λ (x : NodeState). CountedBelow n x) (sym same) old

-- The acts of an event keep it, if its connection has a number below that one.
acted-counts : (n : ℕ) (e : Arrival) (w : NodeState) (passed : List LastKnown) (v : NodeState) → HasConnectionBelow n e.0.what → Acted e w passed v → CountedBelow n w → CountedBelow n v
acted-counts n e w passed v below acted old = by e.0.what below acted
  where
    fed : (c : ℕ) (start : Option Session) → c < n → CameTo start e.0.moment c e.1 w passed v → CountedBelow n v
    fed c None less came = same-counts n w v came.0.sessions came.0.count old
    fed c (Some start) less came = one-counts n c w v less came.around.sessions came.around.count old

    by : (x : What) → HasConnectionBelow n x → ActedBy x e.0.moment e.1 w passed v → CountedBelow n v
    by (what.Opened c at) less t = one-counts n c w v less t.0.around.sessions t.0.around.count old
    by (what.Bytes c len) less t = fed c (w.session c) less t
    by (what.Ended c) less t = let zero : one_if (v.session c) ≡ 0 = ap (λ (x : Option Session). one_if x) t.0.gone in one-counts n c w v less t.0.sessions (let count = t.0.count in omega (arith, count, zero)) old
    by what.Quiet less t = same-counts n w v t.0.sessions t.0.count old
    by what.Stop less t = same-counts n w v t.0.sessions t.0.count old

-- An update keeps it: none happens from the number on.
update-counts : (n c : ℕ) (w v : NodeState) → UpdateAt c w v → CountedBelow n w → CountedBelow n v
update-counts n c w v update old = by (update-cases c w v update) (less-or c n)
  where
    by : ((v ≡ w) × (idles_if (w.session c) ≡ false)) ⊎ ((start : Session) × (w.session c ≡ Some start) × (idles start ≡ true) × UpdateAct start c w v) → (c < n) ⊎ (n ≤ c) → CountedBelow n v
    by (inl still) place = equal-counts n w v still.0 old
    by (inr told) (inl less) = one-counts n c w v less told.3.0.around.sessions told.3.0.around.count old
    by (inr told) (inr from) = absurd (false≢true (sym (old.awake c from) ∙ ap idles_if told.1 ∙ told.2))

-- So it is with those of all connections below any number.
each-counts : (n m : ℕ) (w v : NodeState) → EachBelow UpdateAt m w v → CountedBelow n w → CountedBelow n v
each-counts n zero w v same old = equal-counts n w v same old
each-counts n (suc c) w v each old = update-counts n c each.0 v each.2 (each-counts n c w each.0 each.1 old)

-- Where the archive is open.
all-counts : (n : ℕ) (opened : Bool) (w v : NodeState) → EachIf opened w v → CountedBelow n w → CountedBelow n v
all-counts n true w v each old = each-counts n connection_limit w v each old
all-counts n false w v same old = equal-counts n w v same old

-- The updates after an event keep it.
updated-counts : (n : ℕ) (stops : Bool) (w : NodeState) (reopened : List LastKnown) (v : NodeState) → UpdatedUnless stops w reopened v → CountedBelow n w → CountedBelow n v
updated-counts n true w reopened v updated old = equal-counts n w v updated.0 old
updated-counts n false w reopened v updated old = by (any_idles w.session) updated
  where
    through : UpdatedThrough w reopened v → CountedBelow n v
    through u = all-counts n u.opened u.refreshed v u.each (same-counts n w u.refreshed (λ d. ap (λ (x : NodeState). x.session d) u.reopening_is.world_is) (ap (λ (x : NodeState). x.count) u.reopening_is.world_is) old)

    by : (b : Bool) → UpdatedIf b w reopened v → CountedBelow n v
    by true u = through u
    by false u = equal-counts n w v u.0 old

-- Events in order keep it.
served-counts : (n : ℕ) (es : List Arrival) (w : NodeState) (ts : List Turn) (v : NodeState) → AreBelow n es → Served es w ts v → CountedBelow n w → CountedBelow n v
served-counts n [] w [] v below run old = equal-counts n w v run old
served-counts n [] w (t ∷ ts) v below never old = absurd never
served-counts n (e ∷ es) w [] v below never old = absurd never
served-counts n (e ∷ es) w (t ∷ ts) v below run old =
    served-counts n es t.after ts v below.1 run.1 (updated-counts n (is_stop e.0.what) t.between t.reopened t.after run.0.1 (acted-counts n e w t.passed t.between below.0 run.0.0 old))

-- So the count stays that of the open sessions.
pub counts : CountsOpen
counts n es w ts v below awake run is = (served-counts n es w ts v below run (record { count = is; awake = awake })).count

-- At least as many sessions are counted as are open, after a change of one.
pub counted-one : (c : ℕ) (w v : NodeState) → OthersKept c w.session v.session → v.count + one_if (w.session c) ≡ w.count + one_if (v.session c) → CountsSessions w → CountsSessions v
counted-one c w v others count counted n = by (less-or c n)
  where
    by : (c < n) ⊎ (n ≤ c) → open_below n v.session ≤ v.count
    by (inl less) =
        let both = below-one n c w.session v.session less others in
        let all : open_below n w.session ≤ w.count = counted n in
        omega (arith, both, all, count)
    by (inr more) =
        let same = below-same n w.session v.session (λ d less. others d (λ (is : d ≡ c). (omega (arith, less, more, is)))) in
        let grown = below-grows n c w.session more in
        let all : open_below c w.session + one_if (w.session c) ≤ w.count = counted (suc c) in
        omega (arith, same, grown, all, count)

-- So it is in an equal world.
pub counted-same : (w v : NodeState) → v ≡ w → CountsSessions w → CountsSessions v
counted-same w v same counted = subst (λ (x : NodeState). CountsSessions x) (sym same) counted
