-- The sessions in a map, and what a change of one place leaves.
use Rattle.std.proofs.Common.{◌≡◌, ◌≢◌, ◌+◌, ◌==◌, ℕ, Bool, true, false, cond, nat_lt, Option, Some, None, is_some, refl, sym, ap, subst, ◌∙◌, arith, if◌then◌else◌}
use Rattle.std.specs.Prelude.{IsSome}
use Rattle.std.specs.Ordering.{nat_cmp, is_eq}
use Rattle.std.specs.declared.cmp.Ordering.TheVariants.{Less, Equal, Greater}
use Rattle.std.specs.BTreeMap.{BTreeMap, get_by, btree_map_len, is_at, UpdatesBy, WritesThrough}
use Rattle.std.proofs.lemmas.Bool.Decides.{nat_tests}
use Rattle.edge_io.specs.Hosts.{OthersKept}
use Rattle.node_serve.specs.Nodes.{session_of, places_of, SessionEnds, GotSession, IsPut}
use Rattle.node_serve.specs.World.{one_if}
use Rattle.node_serve.specs.declared.session.Session.{Session}

-- Another key is apart in the order of numbers.
apart-at : (c d : ℕ) → d ≢ c → is_at (nat_cmp c) d ≡ false
apart-at c d apart = by (nat_lt c d) (c == d) refl
  where
    by : (t u : Bool) → (c == d) ≡ u → is_eq (cond t Less (cond u Equal Greater)) ≡ false
    by true u e = refl
    by false false e = refl
    by false true e = absurd (apart (grind (arith, nat_tests, e)))

-- A change at one key leaves the sessions of others.
pub others-kept : (m n : BTreeMap ℕ Session) (c : ℕ) (w : Option Session) → UpdatesBy nat_cmp (nat_cmp c) m n w → OthersKept c (session_of m.entries) (session_of n.entries)
others-kept m n c w updates = λ d other. updates.2 d (apart-at c d other)

count-one : (x : Option Session) → (if is_some x then 1 else 0) ≡ one_if x
count-one None = refl
count-one (Some x) = refl

-- A removal ends a session.
pub ends-removed : (m n : BTreeMap ℕ Session) (c : ℕ) (r : Option Session) → r ≡ get_by (nat_cmp c) m → UpdatesBy nat_cmp (nat_cmp c) m n None → btree_map_len n + (if is_some r then 1 else 0) ≡ btree_map_len m → SessionEnds c (places_of m.entries) (places_of n.entries)
ends-removed m n c r is updates len = record {
  gone = updates.1;
  sessions = others-kept m n c None updates;
  count = ap (λ (x : ℕ). btree_map_len n + x) (sym (count-one r ∙ ap (λ (x : Option Session). one_if x) is)) ∙ len;
}

-- An insertion finds a place.
pub placed-inserted : (m n : BTreeMap ℕ Session) (c : ℕ) (r : Option Session) (start : Session) → session_of m.entries c ≡ None → r ≡ session_of m.entries c → UpdatesBy nat_cmp (nat_cmp c) m n (Some start) → btree_map_len n ≡ btree_map_len m + (if is_some r then 0 else 1) → GotSession c (places_of m.entries) (places_of n.entries)
placed-inserted m n c r start none is updates len = record {
  none = none;
  first = start;
  some = updates.1;
  others = others-kept m n c (Some start) updates;
  count = len ∙ ap (λ (x : Option Session). btree_map_len m + (if is_some x then 0 else 1)) (is ∙ none);
}

-- A write to a place puts a session there.
pub put-written : (m n : BTreeMap ℕ Session) (c : ℕ) (v start : Session) → Some v ≡ get_by (nat_cmp c) m → WritesThrough nat_cmp (nat_cmp c) m start n → IsPut c start (places_of m.entries) (places_of n.entries)
put-written m n c v start found through =
    let updates = through.3 (subst (λ (x : Option Session). IsSome x) found refl) in
    record { here = updates.1; others = others-kept m n c (Some start) updates; count = through.2 }
