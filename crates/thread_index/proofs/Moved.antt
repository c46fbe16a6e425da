-- Pending numbers that were moved to the end of a part, one kind after the other.
use Rattle.std.proofs.Common.{◌≡◌, ◌⊎◌, ◌+◌, ◌<◌, ℕ, false, List, [], ◌∷◌, ◌++◌, length, take, get_or, refl, sym, ◌∙◌, ap, subst, inl, inr, arith, append_assoc, append-nil, nat_cmp, BTreeSet}
use Rattle.std.specs.List.{list_any}
use Rattle.std.specs.Cmp.Lexicographic.{slice_cmp}
use Rattle.std.specs.BTreeMap.{is_at}
use Rattle.std.specs.BTreeSet.{insert_key}
use Rattle.std.specs.Set.{remove_key}
use Rattle.std.specs.List.Sorted.{IsStrictlySortedBy}
use Rattle.std.specs.Global.{Vec}
use Rattle.std.proofs.lemmas.Bool.{cases_eq, false≢true}
use Rattle.std.proofs.lemmas.List.{length_push}
use Rattle.std.proofs.lemmas.Map.Text.{is_eq-slice_cmp}
use Rattle.std.proofs.lemmas.Slice.Eq.{bytes_eq-Decides}
use Rattle.thread_model.specs.Members.{Among, Once}
use Rattle.thread_model.specs.Threads.{KeyedRow}
use Rattle.thread_model.proofs.Members.{among-left, among-right, among-append, take-cases, take-old, take-new}
use Rattle.thread_model.proofs.Numbers.{once-append, sorted-once, once-single}
use Rattle.thread_model.proofs.Entries.{among-at, key-removed, key-left, any-inserted}
use Rattle.thread_index.specs.Tables.{AreHolders}
use Rattle.thread_index.specs.Taking.{MovesPending, HoldsOne, SharesKey, AreSeen}

-- Nothing of a kind was pending.
pub moves-idle : (Kind : ℕ → Type 0) (pending part : List ℕ) → Once pending → ((x : ℕ) → Kind x → Among pending x → ⊥) → MovesPending Kind pending pending part part
moves-idle Kind pending part once gone = record {
  xs = [];
  is = sym (append-nil part);
  from = λ x none. absurd none;
  less = λ x h. h;
  split = λ x h. inl h;
  apart = λ x h none. none;
  gone = gone;
  size = refl;
  once = once;
  once_xs = tt;
}

-- The one number was not pending.
pub moves-missing : (pending pending' part : List ℕ) (n : ℕ) → Once pending → list_any (is_at (nat_cmp n)) pending ≡ false → pending' ≡ pending → MovesPending (Among (n ∷ [])) pending pending' part part
moves-missing pending pending' part n once off same =
    subst (λ ks. MovesPending (Among (n ∷ [])) pending ks part part) (sym same)
    (moves-idle (Among (n ∷ [])) pending part once (λ x in_x h. elim in_x [
      | inl e ↦ false≢true (sym off ∙ among-at pending n (subst (Among pending) e h))
      | inr none ↦ none
    ]))

-- One number was removed from the pending ones and put behind.
pub moves-one : (pending pending' part part' : List ℕ) (n : ℕ) → Once pending → Among pending n → pending' ≡ remove_key (is_at (nat_cmp n)) pending → length pending' + 1 ≡ length pending → IsStrictlySortedBy nat_cmp pending' → part' ≡ part ++ n ∷ [] → MovesPending (Among (n ∷ [])) pending pending' part part'
moves-one pending pending' part part' n once here is len sorted pushed = record {
  xs = n ∷ [];
  is = pushed;
  from = λ x in_x. (in_x, elim in_x [ inl e ↦ subst (Among pending) (sym e) here | inr none ↦ absurd none ]);
  less = λ x h. (key-removed pending n once x (subst (λ ks. Among ks x) is h)).0;
  split = λ x h. elim (cases_eq x n) [
    | inl e ↦ inr (inl e)
    | inr other ↦ inl (subst (λ ks. Among ks x) (sym is) (key-left pending n x other h))
  ];
  apart = λ x h in_x. elim in_x [
    | inl e ↦ (key-removed pending n once x (subst (λ ks. Among ks x) is h)).1 e
    | inr none ↦ none
  ];
  gone = λ x in_x h. elim in_x [
    | inl e ↦ (key-removed pending n once x (subst (λ ks. Among ks x) is h)).1 e
    | inr none ↦ none
  ];
  size = let e : length part' ≡ length part + 1 = ap length pushed ∙ length_push part n in omega arith;
  once = sorted-once pending' sorted;
  once_xs = ((λ none. none), tt);
}

-- First one kind, then another.
pub moves-then : (First Second Both : ℕ → Type 0) (pending mid pending' part part' part'' : List ℕ) → MovesPending First pending mid part part' → MovesPending Second mid pending' part' part''
    → ((x : ℕ) → Both x → First x ⊎ Second x) → ((x : ℕ) → First x → Both x) → ((x : ℕ) → Second x → Both x) → MovesPending Both pending pending' part part''
moves-then First Second Both pending mid pending' part part' part'' a b cases one two = record {
  xs = a.xs ++ b.xs;
  is = b.is ∙ ap (λ (ns : List ℕ). ns ++ b.xs) a.is ∙ append_assoc part a.xs b.xs;
  from = λ x h. elim (among-append a.xs b.xs x h) [
    | inl i ↦ let r = a.from x i in (one x r.0, r.1)
    | inr j ↦ let r = b.from x j in (two x r.0, a.less x r.1)
  ];
  less = λ x h. a.less x (b.less x h);
  split = λ x h. elim (a.split x h) [
    | inl m ↦ elim (b.split x m) [ inl p ↦ inl p | inr j ↦ inr (among-right a.xs b.xs x j) ]
    | inr i ↦ inr (among-left a.xs b.xs x i)
  ];
  apart = λ x h in_x. elim (among-append a.xs b.xs x in_x) [
    | inl i ↦ a.apart x (b.less x h) i
    | inr j ↦ b.apart x h j
  ];
  gone = λ x k h. elim (cases x k) [ inl f ↦ a.gone x f (b.less x h) | inr s ↦ b.gone x s h ];
  size = let s : length part' + length mid ≡ length part + length pending = a.size in let t = b.size in omega arith;
  once = b.once;
  once_xs = once-append a.xs b.xs a.once_xs b.once_xs (λ x i j. a.apart x (b.from x j).1 i);
}

-- The same kind by other words.
pub moves-as : (Kind Other : ℕ → Type 0) (pending pending' part part' : List ℕ) → MovesPending Kind pending pending' part part' → ((x : ℕ) → Kind x → Other x) → ((x : ℕ) → Other x → Kind x) → MovesPending Other pending pending' part part'
moves-as Kind Other pending pending' part part' a to from = record {
  xs = a.xs;
  is = a.is;
  from = λ x h. let r = a.from x h in (to x r.0, r.1);
  less = a.less;
  split = a.split;
  apart = a.apart;
  gone = λ x o. a.gone x (from x o);
  size = a.size;
  once = a.once;
  once_xs = a.once_xs;
}

-- So many numbers of a list.
pub moves-take : (ns : List ℕ) (i d : ℕ) (pending mid pending' part part' part'' : List ℕ) → i < length ns → MovesPending (Among (take i ns)) pending mid part part' → MovesPending (Among (get_or ns i d ∷ [])) mid pending' part' part'' → MovesPending (Among (take (i + 1) ns)) pending pending' part part''
moves-take ns i d pending mid pending' part part' part'' in' a b =
    moves-then (Among (take i ns)) (Among (get_or ns i d ∷ [])) (Among (take (i + 1) ns)) pending mid pending' part part' part'' a b
    (λ x h. elim (take-cases ns i d x in' h) [ inl k ↦ inl k | inr e ↦ inr (inl e) ])
    (λ x h. take-old ns i d x in' h)
    (λ x h. elim h [ inl e ↦ subst (Among (take (i + 1) ns)) (sym e) (take-new ns i d in') | inr none ↦ absurd none ])

-- So many keys of a list.
pub keys-take : (holders : List ℕ → List ℕ) (keys : List (List ℕ)) (i : ℕ) (d : List ℕ) (pending mid pending' part part' part'' : List ℕ) → i < length keys → MovesPending (HoldsOne holders (take i keys)) pending mid part part' → MovesPending (Among (holders (get_or keys i d))) mid pending' part' part''
    → MovesPending (HoldsOne holders (take (i + 1) keys)) pending pending' part part''
keys-take holders keys i d pending mid pending' part part' part'' in' a b =
    moves-then (HoldsOne holders (take i keys)) (Among (holders (get_or keys i d))) (HoldsOne holders (take (i + 1) keys)) pending mid pending' part part' part'' a b
    (λ x h. elim (take-cases keys i d h.0 in' h.1) [ inl k ↦ inl (h.0, k, h.2) | inr e ↦ inr (subst (λ k. Among (holders k) x) e h.2) ])
    (λ x h. (h.0, take-old keys i d h.0 in' h.1, h.2))
    (λ x h. (get_or keys i d, take-new keys i d in', h))

-- The keys of the row of a number.
pub row-shares : (rows : List KeyedRow) (holders : List ℕ → List ℕ) (n : ℕ) (keys : List (List ℕ)) (pending pending' part part' : List ℕ) → AreHolders rows holders → Among rows (n, keys) → MovesPending (HoldsOne holders keys) pending pending' part part' → MovesPending (SharesKey rows holders n) pending pending' part part'
row-shares rows holders n keys pending pending' part part' are in_row a =
    moves-as (HoldsOne holders keys) (SharesKey rows holders n) pending pending' part part' a
    (λ x h. ((n, keys), h.0, in_row, refl, h.1, h.2))
    (λ x h.
    let e : h.0 ≡ (n, keys) = once-single (λ (r : KeyedRow). r.0) rows are.distinct h.0 (n, keys) h.2 in_row h.3 in
    (h.1, subst (λ (r : KeyedRow). Among r.1 h.1) e h.4, h.5))

-- What was seen.
pub seen-none : (seen : BTreeSet (Vec ℕ)) (holders : List ℕ → List ℕ) (pending : List ℕ) → seen.keys ≡ [] → AreSeen seen holders pending
seen-none seen holders pending none = record {
  shut = λ k t x h p. false≢true (sym (ap (list_any (is_at (λ (v : Vec ℕ). slice_cmp nat_cmp k v.items))) none) ∙ t);
}

pub seen-less : (seen : BTreeSet (Vec ℕ)) (holders : List ℕ → List ℕ) (pending pending' : List ℕ) → AreSeen seen holders pending → ((x : ℕ) → Among pending' x → Among pending x) → AreSeen seen holders pending'
seen-less seen holders pending pending' are less = record { shut = λ k t x h p. are.shut k t x h (less x p) }

pub seen-more : (seen seen' : BTreeSet (Vec ℕ)) (holders : List ℕ → List ℕ) (pending : List ℕ) (key : Vec ℕ) (bytes : List ℕ) → key.items ≡ bytes → seen'.keys ≡ insert_key (λ (a b : Vec ℕ). slice_cmp nat_cmp a.items b.items) seen.keys key
    → AreSeen seen holders pending → ((x : ℕ) → Among (holders bytes) x → Among pending x → ⊥) → AreSeen seen' holders pending
seen-more seen seen' holders pending key bytes is put are gone = record {
  shut = λ k t x h p.
      elim (any-inserted (λ (a b : Vec ℕ). slice_cmp nat_cmp a.items b.items) (is_at (λ (v : Vec ℕ). slice_cmp nat_cmp k v.items)) seen.keys key (sym (ap (list_any (is_at (λ (v : Vec ℕ). slice_cmp nat_cmp k v.items))) put) ∙ t)) [
        | inl one ↦
            let e : k ≡ bytes = (bytes_eq-Decides k key.items).0 (sym (is_eq-slice_cmp k key.items) ∙ one) ∙ is in
            gone x (subst (λ q. Among (holders q) x) e h) p
        | inr more ↦ are.shut k more x h p
      ];
}
