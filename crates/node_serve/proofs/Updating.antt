-- The updates of sessions that idle, one connection after another.
use Rattle.std.proofs.Common.{◌≡◌, ◌≢◌, ◌≤◌, ◌<◌, ◌+◌, ◌||◌, ◌⊎◌, ℕ, zero, suc, Bool, true, false, Option, Some, None, refl, sym, ap, subst, ◌∙◌, arith, inl, inr, add-one}
use Rattle.std.proofs.lemmas.Bool.{false≢true, cases_lt}
use Rattle.line_door.specs.Acts.{Acts, held_if}
use Rattle.arch_model.specs.Archives.{Archive}
use Rattle.arch_model.specs.Standing.{standing}
use Rattle.node_serve.specs.Nodes.{OpenSessions, AroundAt, world_of}
use Rattle.node_serve.specs.Updates.{idles, idles_if, said_update, connection_limit, EachBelow, IfIdles, UpdateAct, UpdateBy, UpdateAt, idles_below, any_idles}
use Rattle.node_serve.specs.World.{HostState, NodeState, Around, outside_at, closed_if, closed_at_if}
use Rattle.node_serve.specs.declared.session.Session.{Session}

-- The number of connections, for arithmetic.
pub limit-is : connection_limit ≡ 4294967296
unfolding connection_limit
limit-is = refl

-- One more connection, which does nothing, or was counted before.
to-step : (does : ℕ → NodeState → NodeState → Type 0) (m n : ℕ) (w v : NodeState) → n ≤ suc m → EachBelow does n w v → ((c : ℕ) → n ≤ c → c < suc m → does c v v) → (n ≤ m → EachBelow does m w v) → EachBelow does (suc m) w v
to-step does m n w v low each still before = by (cases_lt m n)
  where
    by : (m < n) ⊎ (n ≤ m) → EachBelow does (suc m) w v
    by (inl above) = let same : n ≡ suc m = omega (arith, low, above) in subst (λ (k : ℕ). EachBelow does k w v) same each
    by (inr under) = (v, before under, still m under (omega arith))

-- The connections from one number on do nothing, so what those below it do is all.
pub each-to : (does : ℕ → NodeState → NodeState → Type 0) (m n : ℕ) (w v : NodeState) → n ≤ m → EachBelow does n w v → ((c : ℕ) → n ≤ c → c < m → does c v v) → EachBelow does m w v
each-to does zero n w v low each still = let same : n ≡ zero = omega (arith, low) in subst (λ (k : ℕ). EachBelow does k w v) same each
each-to does (suc m) n w v low each still = to-step does m n w v low each still (λ under. each-to does m n w v under each (λ c from below. still c from (omega (arith, below))))

-- The next connection that does something, where those between do nothing.
pub each-next : (does : ℕ → NodeState → NodeState → Type 0) (w m v : NodeState) (n c : ℕ) → n ≤ c → EachBelow does n w m → ((d : ℕ) → n ≤ d → d < c → does d m m) → does c m v → EachBelow does (c + 1) w v
each-next does w m v n c low each still here = subst (λ (k : ℕ). EachBelow does k w v) (sym (add-one c)) (m, each-to does c n w m low each still, here)

-- A session that doesn't idle is given no update.
pub update-still : (o : Option Session) (c : ℕ) (w : NodeState) → idles_if o ≡ false → UpdateBy o c w w
update-still None c w none = refl
update-still (Some start) c w none = subst (λ (t : Bool). IfIdles t (UpdateAct start c w w) w w) (sym none) refl

-- Nothing changed around a connection whose session stays open.
pub around-same : (c : ℕ) (start : Session) (w : NodeState) → w.session c ≡ Some start → Around c w w
around-same c start w here = record {
  sessions = λ d other. refl;
  taken = λ d other. refl;
  closings = λ d other. refl;
  closed = sym (ap (λ (x : Option Session). closed_if x (w.out.closings c)) here);
  count = refl;
  closed_at = sym (ap (λ (x : Option Session). closed_at_if x (w.out.taken c) (w.out.closed_at c)) here);
  closed_at_others = λ d other. refl;
}

-- Where nothing changed, that is what may change around a connection.
around-still : (o : Option Session) (c : ℕ) (w : NodeState) → w.session c ≡ o → IfIdles (idles_if o) (Around c w w) w w
around-still None c w here = refl
around-still (Some start) c w here = by (idles start)
  where
    by : (t : Bool) → IfIdles t (Around c w w) w w
    by true = around-same c start w here
    by false = refl

-- So it is for all connections.
pub each-still : (w : NodeState) → EachBelow AroundAt connection_limit w w
each-still w = each-to AroundAt connection_limit 0 w w (omega (arith, limit-is)) refl (λ c low below. around-still (w.session c) c w refl)

-- What a connection does leaves the sessions of others.
around-others : (t : Bool) (c d : ℕ) (w v : NodeState) → d ≢ c → IfIdles t (Around c w v) w v → v.session d ≡ w.session d
around-others true c d w v other around = around.sessions d other
around-others false c d w v other same = ap (λ (x : NodeState). x.session d) same

-- What connections below a number do leaves the sessions from it on.
pub each-same : (n : ℕ) (w v : NodeState) → EachBelow AroundAt n w v → (d : ℕ) → n ≤ d → v.session d ≡ w.session d
each-same zero w v each d low = ap (λ (x : NodeState). x.session d) each
each-same (suc n) w v each d low =
    around-others (idles_if (each.0.session n)) n d each.0 v (λ same. omega (arith, low, same)) each.2
    ∙ each-same n w each.0 each.1 d (omega (arith, low))

-- Updates up to the next connection whose session idles, and its own.
pub updates-next : (w m v : NodeState) (n c k : ℕ) → k ≡ c → n ≤ c → EachBelow UpdateAt n w m → ((d : ℕ) → n ≤ d → d < c → idles_if (m.session d) ≡ false) → UpdateAt c m v → EachBelow UpdateAt (k + 1) w v
updates-next w m v n c k same low each none here =
    subst (λ (x : ℕ). EachBelow UpdateAt (x + 1) w v) (sym same) (each-next UpdateAt w m v n c low each (λ d from below. update-still (m.session d) d m (none d from below)) here)

-- The same of what they change, whatever the keeper holds.
pub around-next : (w m v : NodeState) (n c k : ℕ) → k ≡ c → n ≤ c → EachBelow AroundAt n w m → AroundAt c m v → EachBelow AroundAt (k + 1) w v
around-next w m v n c k same low each here =
    subst (λ (x : ℕ). EachBelow AroundAt (x + 1) w v) (sym same) (each-next AroundAt w m v n c low each (λ d from below. around-still (m.session d) d m refl) here)

-- Updates up to a number from which on no session idles are all.
pub updates-end : (w v : NodeState) (n : ℕ) → n ≤ connection_limit → EachBelow UpdateAt n w v → ((c : ℕ) → n ≤ c → c < connection_limit → idles_if (v.session c) ≡ false) → EachBelow UpdateAt connection_limit w v
updates-end w v n low each none =
    each-to UpdateAt connection_limit n w v low each (λ c from below. update-still (v.session c) c v (none c from below))

-- The same of what they change.
pub around-end : (w v : NodeState) (n : ℕ) → n ≤ connection_limit → EachBelow AroundAt n w v → EachBelow AroundAt connection_limit w v
around-end w v n low each = each-to AroundAt connection_limit n w v low each (λ c from below. around-still (v.session c) c v refl)

-- One of two tests.
or-left : (a b : Bool) → a ≡ true → (a || b) ≡ true
or-left true b on = refl
or-left false b on = absurd (false≢true on)

or-right : (a b : Bool) → b ≡ true → (a || b) ≡ true
or-right true b on = refl
or-right false b on = on

or-none : (a b : Bool) → a ≡ false → b ≡ false → (a || b) ≡ false
or-none true b off other = off
or-none false b off other = other

-- A session that idles is found below a number.
one-step : (n c : ℕ) (session : ℕ → Option Session) → c < suc n → idles_if (session c) ≡ true → (c < n → idles_below n session ≡ true) → idles_below (suc n) session ≡ true
one-step n c session low on before = by (cases_lt c n)
  where
    by : (c < n) ⊎ (n ≤ c) → (idles_below n session || idles_if (session n)) ≡ true
    by (inl below) = or-left (idles_below n session) (idles_if (session n)) (before below)
    by (inr last) =
        let same : c ≡ n = omega (arith, low, last) in
        or-right (idles_below n session) (idles_if (session n)) (subst (λ (d : ℕ). idles_if (session d) ≡ true) same on)

one-below : (n c : ℕ) (session : ℕ → Option Session) → c < n → idles_if (session c) ≡ true → idles_below n session ≡ true
one-below zero c session low on = absurd (omega (arith, low))
one-below (suc n) c session low on = one-step n c session low on (λ below. one-below n c session below on)

-- Where none idles, none is found.
none-below : (n : ℕ) (session : ℕ → Option Session) → ((c : ℕ) → c < n → idles_if (session c) ≡ false) → idles_below n session ≡ false
none-below zero session none = refl
none-below (suc n) session none = or-none (idles_below n session) (idles_if (session n)) (none-below n session (λ c below. none c (omega (arith, below)))) (none n (omega arith))

-- The same of all connections.
pub one-idles : (session : ℕ → Option Session) (c : ℕ) → c < connection_limit → idles_if (session c) ≡ true → any_idles session ≡ true
unfolding any_idles
one-idles session c low on = one-below connection_limit c session low on

pub none-idles : (session : ℕ → Option Session) → ((c : ℕ) → c < connection_limit → idles_if (session c) ≡ false) → any_idles session ≡ false
unfolding any_idles
none-idles session none = none-below connection_limit session none

-- The update of a session that idles is what its act says, and what is around it.
pub update-acted : (c : ℕ) (start left : Session) (goes_on : Bool) (a : Archive) (p q : OpenSessions) (i j : HostState) → idles_if (p.session c) ≡ true → p.session c ≡ Some start → q.session c ≡ held_if goes_on left
    → Acts (said_update (standing a None) start) (outside_at c i) (held_if goes_on left) (standing a None) (outside_at c j) → j.disk ≡ i.disk → Around c (world_of (standing a None) p i) (world_of (standing a None) q j) → UpdateAt c (world_of (standing a None) p i) (world_of (standing a None) q j)
update-acted c start left goes_on a p q i j on here kept acts disk around =
    let w = world_of (standing a None) p i in
    let v = world_of (standing a None) q j in
    let idle : idles start ≡ true = sym (ap idles_if here) ∙ on in
    let said = subst (λ (x : Option Session). Acts (said_update (standing a None) start) (outside_at c i) x (standing a None) (outside_at c j)) (sym kept) acts in
    subst (λ (x : Option Session). UpdateBy x c w v) (sym here)
    (subst (λ (t : Bool). IfIdles t (UpdateAct start c w v) w v) (sym idle) (record { acts = said; around = around }, disk))
