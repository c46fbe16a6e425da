-- The loops of taking a row: the other rows of its list, and the keys that let it go.
use Rattle.std.proofs.Common.{◌≡◌, ◌==◌, ◌+◌, ◌≤◌, ◌<◌, ℕ, not, List, [], ◌∷◌, length, take, get_or, refl, sym, ◌∙◌, ap, subst, inl, inr, nat_cmp, bytes_eq}
use Rattle.std.specs.BTreeSet.{insert_key}
use Rattle.std.specs.List.Sorted.{IsStrictlySortedBy}
use Rattle.std.proofs.lemmas.Bool.{cases_Bool, not-true, eqb-false, ne_eqb}
use Rattle.std.proofs.lemmas.Slice.Eq.{bytes_eq-Decides}
use Rattle.thread_model.specs.Members.{Among}
use Rattle.thread_model.proofs.Members.{among-filter, among-filtered, take-cases, take-old, take-new, take-among, take-end}
use Rattle.thread_model.proofs.Numbers.{sorted-once, rises-from_sorted}
use Rattle.thread_model.proofs.Entries.{key-cases, key-here, key-kept}
use Rattle.thread_index.specs.Lists.{PutsKey}
use Rattle.thread_index.specs.Index.{OrdersNumbers}
use Rattle.thread_index.specs.Taking.{all_but, AreOthers, PutsOther, LetGo}
use Rattle.thread_index.proofs.MapLists.{key-here as here-key, key-other}

pub puts-one : (old new : List ℕ) (m n : ℕ) → (m ≡ n → ⊥) → new ≡ insert_key nat_cmp old m → IsStrictlySortedBy nat_cmp new → PutsOther old new m n
puts-one old new m n other is sorted = record {
  to = λ x h. elim (key-cases nat_cmp old m x (subst (λ ks. Among ks x) is h)) [
    | inl e ↦ inr (e, λ s. other (sym e ∙ s))
    | inr a ↦ inl a
  ];
  kept = λ x h. subst (λ ks. Among ks x) (sym is) (key-kept old m x h);
  here = λ _. subst (λ ks. Among ks m) (sym is) (key-here old m);
  once = λ o. sorted-once new sorted;
}

pub others-take : (ns : List ℕ) (i d n : ℕ) (old new : List ℕ) → i < length ns → AreOthers (take i ns) n old → PutsOther old new (get_or ns i d) n → AreOthers (take (i + 1) ns) n new
others-take ns i d n old new in' is puts = record {
  to = λ m h. elim (puts.to m h) [
    | inl a ↦ let o = is.to m a in (take-old ns i d m in' o.0, o.1)
    | inr b ↦ (subst (Among (take (i + 1) ns)) (sym b.0) (take-new ns i d in'), b.1)
  ];
  from = λ m h other. elim (take-cases ns i d m in' h) [
    | inl a ↦ puts.kept m (is.from m a other)
    | inr e ↦ subst (Among new) (sym e) (puts.here (λ s. other (e ∙ s)))
  ];
  once = puts.once is.once;
}

-- Numbers in order: the loop over a list.
pub record AreGathered (done set : List ℕ) : Type 0 where
  pub sorted : IsStrictlySortedBy nat_cmp set
  pub to : (n : ℕ) → Among set n → Among done n
  pub from : (n : ℕ) → Among done n → Among set n

pub gathered-take : (ns : List ℕ) (i d : ℕ) (old new : List ℕ) → i < length ns → AreGathered (take i ns) old → new ≡ insert_key nat_cmp old (get_or ns i d) → IsStrictlySortedBy nat_cmp new → AreGathered (take (i + 1) ns) new
gathered-take ns i d old new in' is puts sorted = record {
  sorted = sorted;
  to = λ n h. elim (key-cases nat_cmp old (get_or ns i d) n (subst (λ ks. Among ks n) puts h)) [
    | inl e ↦ subst (Among (take (i + 1) ns)) (sym e) (take-new ns i d in')
    | inr a ↦ take-old ns i d n in' (is.to n a)
  ];
  from = λ n h. subst (λ ks. Among ks n) (sym puts) (elim (take-cases ns i d n in' h) [
    | inl a ↦ key-kept old (get_or ns i d) n (is.from n a)
    | inr e ↦ subst (Among (insert_key nat_cmp old (get_or ns i d))) (sym e) (key-here old (get_or ns i d))
  ]);
}

pub in-order : (ns : List ℕ) (i : ℕ) (set : List ℕ) → length ns ≤ i → AreGathered (take i ns) set → OrdersNumbers ns set
in-order ns i set past is = record {
  rises = rises-from_sorted set is.sorted;
  to = λ n h. take-among ns i n (is.to n h);
  from = λ n h. is.from n (take-end ns i n past h);
}

-- A list without a number.
pub but-among : (n : ℕ) (ns : List ℕ) (m : ℕ) → Among (all_but n ns) m → Among ns m × (m ≡ n → ⊥)
but-among n ns m h =
    let r = among-filter (λ (x : ℕ). not (x == n)) ns m h in
    (r.0, eqb-false m n (not-true (m == n) r.1))

pub among-but : (n : ℕ) (ns : List ℕ) (m : ℕ) → Among ns m → (m ≡ n → ⊥) → Among (all_but n ns) m
among-but n ns m h other = among-filtered (λ (x : ℕ). not (x == n)) ns m h (ap not (ne_eqb m n other))

pub let-one : (old new : List ℕ → List ℕ) (key : List ℕ) (n : ℕ) → PutsKey old new key (all_but n (old key)) → LetGo old new (key ∷ []) n
let-one old new key n puts = record {
  less = λ k m h. elim (cases_Bool (bytes_eq k key)) [
    | inl t ↦
        let e : k ≡ key = (bytes_eq-Decides k key).0 t in
        let r = but-among n (old key) m (subst (λ ns. Among ns m) (ap new e ∙ here-key old new key (all_but n (old key)) puts) h) in
        subst (λ q. Among (old q) m) (sym e) r.0
    | inr f ↦ subst (λ ns. Among ns m) (key-other old new key (all_but n (old key)) puts k f) h
  ];
  kept = λ k m h other. elim (cases_Bool (bytes_eq k key)) [
    | inl t ↦
        let e : k ≡ key = (bytes_eq-Decides k key).0 t in
        subst (λ ns. Among ns m) (sym (ap new e ∙ here-key old new key (all_but n (old key)) puts)) (among-but n (old key) m (subst (λ q. Among (old q) m) e h) other)
    | inr f ↦ subst (λ ns. Among ns m) (sym (key-other old new key (all_but n (old key)) puts k f)) h
  ];
  gone = λ k in_k h. elim in_k [
    | inl e ↦ (but-among n (old key) n (subst (λ ns. Among ns n) (ap new e ∙ here-key old new key (all_but n (old key)) puts) h)).1 refl
    | inr none ↦ none
  ];
}

pub let-take : (old mid new : List ℕ → List ℕ) (keys : List (List ℕ)) (i : ℕ) (d : List ℕ) (n : ℕ) → i < length keys → LetGo old mid (take i keys) n → LetGo mid new (get_or keys i d ∷ []) n → LetGo old new (take (i + 1) keys) n
let-take old mid new keys i d n in' is one = record {
  less = λ k m h. is.less k m (one.less k m h);
  kept = λ k m h other. one.kept k m (is.kept k m h other) other;
  gone = λ k in_k h. elim (take-cases keys i d k in' in_k) [
    | inl a ↦ is.gone k a (one.less k n h)
    | inr e ↦ one.gone k (inl e) h
  ];
}
