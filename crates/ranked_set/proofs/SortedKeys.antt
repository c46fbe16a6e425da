-- Keys in order: their parts, their ranks, and one key more or less.
use Rattle.std.proofs.Common.{◌≡◌, ◌+◌, suc, Bool, true, false, cond, ◌||◌, List, [], ◌∷◌, ◌++◌, length, refl, sym, ap, ◌∙◌, arith}
use Rattle.std.specs.declared.cmp.Ordering.{Ordering}
use Rattle.std.specs.declared.cmp.Ordering.TheVariants.{Less, Equal, Greater}
use Rattle.std.specs.Ordering.{is_lt, is_eq, match_ordering, ordering_reverse}
use Rattle.std.specs.Cmp.{IsTotalOrder, tied_itself}
use Rattle.std.specs.List.{AllByRecursion, list_any, prefix_len, count_by, insert, remove, slice_get}
use Rattle.std.specs.List.Sorted.{IsStrictlySortedBy}
use Rattle.std.specs.BTreeMap.{is_at}
use Rattle.std.specs.BTreeSet.{insert_key}
use Rattle.std.specs.Set.{remove_key}
use Rattle.std.proofs.lemmas.Bool.{or_parts}
use Rattle.std.proofs.lemmas.List.Sums.{sum_by-cons}
use Rattle.std.proofs.lemmas.Map.Keys.{sorted_head, sorted_tail}
use Rattle.ranked_set.specs.Ranks.{rank_of, has_key}

-- What holds of each element of a list holds of those of its parts.
pub all_front : {X : Type 0} (P : X → Type 0) (xs ys : List X) → AllByRecursion P (xs ++ ys) → AllByRecursion P xs
all_front P [] ys h = tt
all_front P (x ∷ xs) ys h = (h.0, all_front P xs ys h.1)

pub all_middle : {X : Type 0} (P : X → Type 0) (xs : List X) (y : X) (ys : List X) → AllByRecursion P (xs ++ y ∷ ys) → P y
all_middle P [] y ys h = h.0
all_middle P (x ∷ xs) y ys h = all_middle P xs y ys h.1

pub all_map : {X : Type 0} (P Q : X → Type 0) → ((x : X) → P x → Q x) → (xs : List X) → AllByRecursion P xs → AllByRecursion Q xs
all_map P Q f [] h = tt
all_map P Q f (x ∷ xs) h = (f x h.0, all_map P Q f xs h.1)

pub less-of : (r : Ordering) → is_lt r ≡ true → r ≡ Less
less-of Less h = refl
less-of Equal h = absurd (cc)
less-of Greater h = absurd (cc)

module _ {K : Type 0} (R : K → K → Ordering) where
  -- The test for keys that are less than one.
  abbrev pub before : K → K → Bool
  before key k = is_lt (R k key)

  pub sorted_cons : (x : K) (xs : List K) → AllByRecursion (λ y. R x y ≡ Less) xs → IsStrictlySortedBy R xs → IsStrictlySortedBy R (x ∷ xs)
  unfolding IsStrictlySortedBy
  sorted_cons x xs h s = (h, s)

  pub sorted_nil : IsStrictlySortedBy R []
  unfolding IsStrictlySortedBy
  sorted_nil = tt

  -- Each part of keys in order is in order.
  pub sorted_front : (xs ys : List K) → IsStrictlySortedBy R (xs ++ ys) → IsStrictlySortedBy R xs
  sorted_front [] ys s = sorted_nil
  sorted_front (x ∷ xs) ys s =
      sorted_cons x xs (all_front (λ y. R x y ≡ Less) xs ys (sorted_head R x (xs ++ ys) s)) (sorted_front xs ys (sorted_tail R x (xs ++ ys) s))

  pub sorted_back : (xs ys : List K) → IsStrictlySortedBy R (xs ++ ys) → IsStrictlySortedBy R ys
  sorted_back [] ys s = s
  sorted_back (x ∷ xs) ys s = sorted_back xs ys (sorted_tail R x (xs ++ ys) s)

  pub sorted_after : (xs : List K) (y : K) (ys : List K) → IsStrictlySortedBy R (xs ++ y ∷ ys) → IsStrictlySortedBy R ys
  sorted_after xs y ys s = sorted_tail R y ys (sorted_back xs (y ∷ ys) s)

  -- The parts of keys in order.
  pub sorted_sides : (whole xs : List K) (y : K) (ys : List K) → whole ≡ xs ++ y ∷ ys → IsStrictlySortedBy R whole → IsStrictlySortedBy R xs × IsStrictlySortedBy R ys
  sorted_sides whole xs y ys e s =
      let parts = rw e at s in
      (sorted_front xs (y ∷ ys) parts, sorted_after xs y ys parts)

  -- No key before one that isn't less is counted beyond it.
  pub rank-left : (key : K) (xs : List K) (y : K) (ys : List K) → is_lt (R y key) ≡ false → prefix_len (before key) (xs ++ y ∷ ys) ≡ prefix_len (before key) xs
  rank-left key [] y ys h = rw h refl
  rank-left key (x ∷ xs) y ys h = ap (λ n. cond (is_lt (R x key)) (1 + n) 0) (rank-left key xs y ys h)

  all-insert : (P : K → Type 0) (key : K) (xs : List K) → P key → AllByRecursion P xs → AllByRecursion P (insert_key R xs key)
  all-insert P key [] p h = (p, tt)
  all-insert P key (x ∷ xs) p h = step (R key x) (all-insert P key xs p h.1)
    where
      step : (r : Ordering) → AllByRecursion P (insert_key R xs key) → AllByRecursion P (match_ordering r (key ∷ x ∷ xs) (x ∷ xs) (x ∷ insert_key R xs key))
      step Less ih = (p, h)
      step Equal ih = h
      step Greater ih = (h.0, ih)

  pub all-remove : (P : K → Type 0) (test : K → Bool) (xs : List K) → AllByRecursion P xs → AllByRecursion P (remove_key test xs)
  all-remove P test [] h = tt
  all-remove P test (x ∷ xs) h = step (test x) (all-remove P test xs h.1)
    where
      step : (t : Bool) → AllByRecursion P (remove_key test xs) → AllByRecursion P (cond t xs (x ∷ remove_key test xs))
      step true ih = h.1
      step false ih = (h.0, ih)

  pub sorted-remove : (test : K → Bool) (xs : List K) → IsStrictlySortedBy R xs → IsStrictlySortedBy R (remove_key test xs)
  sorted-remove test [] s = sorted_nil
  sorted-remove test (x ∷ xs) s = step (test x) (sorted-remove test xs (sorted_tail R x xs s))
    where
      step : (t : Bool) → IsStrictlySortedBy R (remove_key test xs) → IsStrictlySortedBy R (cond t xs (x ∷ remove_key test xs))
      step true ih = sorted_tail R x xs s
      step false ih = sorted_cons x (remove_key test xs) (all-remove (λ y. R x y ≡ Less) test xs (sorted_head R x xs s)) ih

  -- A key that isn't there isn't removed.
  pub remove-absent : (test : K → Bool) (xs : List K) → list_any test xs ≡ false → remove_key test xs ≡ xs
  remove-absent test [] h = refl
  remove-absent test (x ∷ xs) h = step (test x) (or_parts (test x) (list_any test xs) h).0 (remove-absent test xs (or_parts (test x) (list_any test xs) h).1)
    where
      step : (t : Bool) → t ≡ false → remove_key test xs ≡ xs → cond t xs (x ∷ remove_key test xs) ≡ x ∷ xs
      step true e ih = absurd (cc)
      step false e ih = ap (λ t. x ∷ t) ih

module _ {K : Type 0} {R : K → K → Ordering} (o : IsTotalOrder R) where
  reversed : (x y : K) (r : Ordering) → R x y ≡ r → R y x ≡ ordering_reverse r
  reversed x y r e = o.antisymm y x ∙ ap ordering_reverse e

  -- Where one key is less than another, so are all before it.
  pub rank-right : (key : K) (xs : List K) (y : K) (ys : List K) → IsStrictlySortedBy R (xs ++ y ∷ ys) → R y key ≡ Less
      → prefix_len (before R key) (xs ++ y ∷ ys) ≡ length xs + (1 + prefix_len (before R key) ys)
  rank-right key [] y ys s e = rw e (omega arith)
  rank-right key (x ∷ xs) y ys s e =
      let first : R x y ≡ Less = all_middle (λ z. R x z ≡ Less) xs y ys (sorted_head R x (xs ++ y ∷ ys) s) in
      let less : R x key ≡ Less = o.trans x y key first e in
      let ih = rank-right key xs y ys (sorted_tail R x (xs ++ y ∷ ys) s) e in
      rw less (omega (arith, ih))

  -- No key equals one that is less than the first.
  none_below : (key x : K) (xs : List K) → R key x ≡ Less → AllByRecursion (λ y. R x y ≡ Less) xs → list_any (is_at (R key)) xs ≡ false
  none_below key x [] e h = refl
  none_below key x (y ∷ ys) e h =
      let less : R key y ≡ Less = o.trans key x y e h.0 in
      rw less (none_below key x ys e h.1)

  -- Of keys in order, those that are less than one are at the front.
  none_less : (key x : K) (xs : List K) → is_lt (R x key) ≡ false → AllByRecursion (λ y. R x y ≡ Less) xs → count_by (before R key) xs ≡ 0
  none_less key x [] e h = refl
  none_less key x (y ∷ ys) e h =
      let cons : count_by (before R key) (y ∷ ys) ≡ cond (is_lt (R y key)) 1 0 + count_by (before R key) ys = sum_by-cons (λ k. cond (before R key k) 1 0) y ys in
      let not_less : is_lt (R y key) ≡ false = by (R y key) refl in
      cons ∙ rw not_less (omega (arith, none_less key x ys e h.1))
    where
      by : (r : Ordering) → R y key ≡ r → is_lt r ≡ false
      by Less f = (let less : R x key ≡ Less = o.trans x y key h.0 f in let yes : is_lt (R x key) ≡ true = ap is_lt less in absurd (cc))
      by Equal f = refl
      by Greater f = refl

  pub rank-count : (key : K) (xs : List K) → IsStrictlySortedBy R xs → prefix_len (before R key) xs ≡ rank_of R xs key
  rank-count key [] s = refl
  rank-count key (x ∷ xs) s =
      let cons : count_by (before R key) (x ∷ xs) ≡ cond (is_lt (R x key)) 1 0 + count_by (before R key) xs = sum_by-cons (λ k. cond (before R key k) 1 0) x xs in
      step (is_lt (R x key)) refl (rank-count key xs (sorted_tail R x xs s)) ∙ sym cons
    where
      step : (t : Bool) → is_lt (R x key) ≡ t → prefix_len (before R key) xs ≡ count_by (before R key) xs → cond t (1 + prefix_len (before R key) xs) 0 ≡ cond t 1 0 + count_by (before R key) xs
      step true e ih = omega (arith, ih)
      step false e ih = omega (arith, none_less key x xs e (sorted_head R x xs s))

  -- What is at the rank of a key is that key, if it is there.
  pub rank-found : (key : K) (xs : List K) → IsStrictlySortedBy R xs → has_key R key (slice_get xs (prefix_len (before R key) xs)) ≡ list_any (is_at (R key)) xs
  rank-found key [] s = refl
  rank-found key (x ∷ xs) s =
      rw (o.antisymm x key) (step (R key x) refl (rank-found key xs (sorted_tail R x xs s)))
    where
      step : (r : Ordering) → R key x ≡ r → has_key R key (slice_get xs (prefix_len (before R key) xs)) ≡ list_any (is_at (R key)) xs
          → has_key R key (slice_get (x ∷ xs) (cond (is_lt (ordering_reverse r)) (1 + prefix_len (before R key) xs) 0)) ≡ (is_eq r || list_any (is_at (R key)) xs)
      step Less e ih = ap is_eq (reversed key x Less e) ∙ sym (none_below key x xs e (sorted_head R x xs s))
      step Equal e ih = ap is_eq (reversed key x Equal e)
      step Greater e ih =
          let one_more : 1 + prefix_len (before R key) xs ≡ suc (prefix_len (before R key) xs) = omega arith in
          rw one_more ih

  -- A new key goes to its rank.
  pub insert-at_rank : (key : K) (xs : List K) → list_any (is_at (R key)) xs ≡ false → insert xs (prefix_len (before R key) xs) key ≡ insert_key R xs key
  insert-at_rank key [] h = refl
  insert-at_rank key (x ∷ xs) h =
      let parts = or_parts (is_eq (R key x)) (list_any (is_at (R key)) xs) h in
      rw (o.antisymm x key) (step (R key x) parts.0 (insert-at_rank key xs parts.1))
    where
      step : (r : Ordering) → is_eq r ≡ false → insert xs (prefix_len (before R key) xs) key ≡ insert_key R xs key
          → insert (x ∷ xs) (cond (is_lt (ordering_reverse r)) (1 + prefix_len (before R key) xs) 0) key ≡ match_ordering r (key ∷ x ∷ xs) (x ∷ xs) (x ∷ insert_key R xs key)
      step Less e ih = refl
      step Equal e ih = absurd (cc)
      step Greater e ih =
          let one_more : 1 + prefix_len (before R key) xs ≡ suc (prefix_len (before R key) xs) = omega arith in
          rw one_more (ap (λ t. x ∷ t) ih)

  -- A key that is there stays.
  pub insert-present : (key : K) (xs : List K) → IsStrictlySortedBy R xs → list_any (is_at (R key)) xs ≡ true → insert_key R xs key ≡ xs
  insert-present key [] s h = absurd (cc)
  insert-present key (x ∷ xs) s h = step (R key x) refl h (λ found. insert-present key xs (sorted_tail R x xs s) found)
    where
      step : (r : Ordering) → R key x ≡ r → (is_eq r || list_any (is_at (R key)) xs) ≡ true → (list_any (is_at (R key)) xs ≡ true → insert_key R xs key ≡ xs)
          → match_ordering r (key ∷ x ∷ xs) (x ∷ xs) (x ∷ insert_key R xs key) ≡ x ∷ xs
      step Less e found ih = (let none : list_any (is_at (R key)) xs ≡ false = none_below key x xs e (sorted_head R x xs s) in absurd (cc))
      step Equal e found ih = refl
      step Greater e found ih = ap (λ t. x ∷ t) (ih found)

  -- The key at its rank is the one that is removed.
  pub remove-at_rank : (key : K) (xs : List K) → has_key R key (slice_get xs (prefix_len (before R key) xs)) ≡ true → remove xs (prefix_len (before R key) xs) ≡ remove_key (is_at (R key)) xs
  remove-at_rank key [] h = absurd (cc)
  remove-at_rank key (x ∷ xs) h =
      rw (o.antisymm x key) (step (R key x) refl (rw (o.antisymm x key) at h) (λ found. remove-at_rank key xs found))
    where
      step : (r : Ordering) → R key x ≡ r → has_key R key (slice_get (x ∷ xs) (cond (is_lt (ordering_reverse r)) (1 + prefix_len (before R key) xs) 0)) ≡ true
          → (has_key R key (slice_get xs (prefix_len (before R key) xs)) ≡ true → remove xs (prefix_len (before R key) xs) ≡ remove_key (is_at (R key)) xs)
          → remove (x ∷ xs) (cond (is_lt (ordering_reverse r)) (1 + prefix_len (before R key) xs) 0) ≡ cond (is_eq r) xs (x ∷ remove_key (is_at (R key)) xs)
      step Less e found ih = (let yes' : is_eq (R x key) ≡ true = found in let greater : is_eq (R x key) ≡ false = ap is_eq (reversed key x Less e) in absurd (cc))
      step Equal e found ih = refl
      step Greater e found ih =
          let one_more : 1 + prefix_len (before R key) xs ≡ suc (prefix_len (before R key) xs) = omega arith in
          rw one_more (ap (λ t. x ∷ t) (ih (rw one_more at found)))

  -- Keys stay in order.
  pub sorted-insert : (key : K) (xs : List K) → IsStrictlySortedBy R xs → IsStrictlySortedBy R (insert_key R xs key)
  sorted-insert key [] s = sorted_cons R key [] tt (sorted_nil R)
  sorted-insert key (x ∷ xs) s = step (R key x) refl (sorted-insert key xs (sorted_tail R x xs s))
    where
      step : (r : Ordering) → R key x ≡ r → IsStrictlySortedBy R (insert_key R xs key) → IsStrictlySortedBy R (match_ordering r (key ∷ x ∷ xs) (x ∷ xs) (x ∷ insert_key R xs key))
      step Less e ih =
          sorted_cons R key (x ∷ xs) (e, all_map (λ y. R x y ≡ Less) (λ y. R key y ≡ Less) (λ y f. o.trans key x y e f) xs (sorted_head R x xs s)) s
      step Equal e ih = s
      step Greater e ih = sorted_cons R x (insert_key R xs key) (all-insert R (λ y. R x y ≡ Less) key xs (reversed key x Greater e) (sorted_head R x xs s)) ih

  -- A new key that was inserted and removed again leaves what was there.
  pub remove-insert : (key : K) (xs : List K) → list_any (is_at (R key)) xs ≡ false → remove_key (is_at (R key)) (insert_key R xs key) ≡ xs
  remove-insert key [] h = rw (tied_itself o key) refl
  remove-insert key (x ∷ xs) h =
      let parts = or_parts (is_eq (R key x)) (list_any (is_at (R key)) xs) h in
      step (R key x) refl parts.0 (remove-insert key xs parts.1)
    where
      step : (r : Ordering) → R key x ≡ r → is_eq r ≡ false → remove_key (is_at (R key)) (insert_key R xs key) ≡ xs
          → remove_key (is_at (R key)) (match_ordering r (key ∷ x ∷ xs) (x ∷ xs) (x ∷ insert_key R xs key)) ≡ x ∷ xs
      step Less e f ih = rw (tied_itself o key) refl
      step Equal e f ih = absurd (cc)
      step Greater e f ih = rw e (ap (λ t. x ∷ t) ih)

  -- A list of which one key is inserted, by the order of the two.
  through : (p : Ordering) (xs ys zs : List K) (key : K) → insert_key R (match_ordering p xs ys zs) key ≡ match_ordering p (insert_key R xs key) (insert_key R ys key) (insert_key R zs key)
  through Less xs ys zs key = refl
  through Equal xs ys zs key = refl
  through Greater xs ys zs key = refl

  -- How two keys stand to a third and to each other.
  record Stand (a b : K) (p q r : Ordering) : Type 0 where
    same : r ≡ Equal → a ≡ b
    less_equal : p ≡ Less → q ≡ Equal → r ≡ Greater
    less_greater : p ≡ Less → q ≡ Greater → r ≡ Greater
    equal_less : p ≡ Equal → q ≡ Less → r ≡ Less
    greater_less : p ≡ Greater → q ≡ Less → r ≡ Less

  stand : ((x y : K) → R x y ≡ Equal → x ≡ y) → (a b x : K) → Stand a b (R a x) (R b x) (R b a)
  stand exact a b x = record {
    same = λ e. sym (exact b a e);
    less_equal = λ p q. o.congr b x a q ∙ reversed a x Less p;
    less_greater = λ p q. reversed a b Less (o.trans a x b p (reversed b x Greater q));
    equal_less = λ p q. reversed a b Greater (o.congr a x b p ∙ reversed b x Less q);
    greater_less = λ p q. o.trans b x a q (reversed a x Greater p);
  }

  -- Two keys before a list, by how they stand to its first key and to each other.
  commute-step : (a b x : K) (xs ia ib iab iba : List K) (p q r : Ordering) → iab ≡ iba → Stand a b p q r
      → match_ordering p (match_ordering r (b ∷ a ∷ x ∷ xs) (a ∷ x ∷ xs) (a ∷ match_ordering q (b ∷ x ∷ xs) (x ∷ xs) (x ∷ ib))) (match_ordering q (b ∷ x ∷ xs) (x ∷ xs) (x ∷ ib))
      (match_ordering q (b ∷ x ∷ ia) (x ∷ ia) (x ∷ iab))
      ≡ match_ordering q (match_ordering (ordering_reverse r) (a ∷ b ∷ x ∷ xs) (b ∷ x ∷ xs) (b ∷ match_ordering p (a ∷ x ∷ xs) (x ∷ xs) (x ∷ ia))) (match_ordering p (a ∷ x ∷ xs) (x ∷ xs) (x ∷ ia))
      (match_ordering p (a ∷ x ∷ ib) (x ∷ ib) (x ∷ iba))
  commute-step a b x xs ia ib iab iba Less Less Less e h = refl
  commute-step a b x xs ia ib iab iba Less Less Equal e h = ap (λ t. t ∷ x ∷ xs) (h.same refl)
  commute-step a b x xs ia ib iab iba Less Less Greater e h = refl
  commute-step a b x xs ia ib iab iba Less Equal Less e h = absurd (let no : Less ≡ Greater = h.less_equal refl refl in cc)
  commute-step a b x xs ia ib iab iba Less Equal Equal e h = absurd (let no : Equal ≡ Greater = h.less_equal refl refl in cc)
  commute-step a b x xs ia ib iab iba Less Equal Greater e h = refl
  commute-step a b x xs ia ib iab iba Less Greater Less e h = absurd (let no : Less ≡ Greater = h.less_greater refl refl in cc)
  commute-step a b x xs ia ib iab iba Less Greater Equal e h = absurd (let no : Equal ≡ Greater = h.less_greater refl refl in cc)
  commute-step a b x xs ia ib iab iba Less Greater Greater e h = refl
  commute-step a b x xs ia ib iab iba Equal Less Less e h = refl
  commute-step a b x xs ia ib iab iba Equal Less Equal e h = absurd (let no : Equal ≡ Less = h.equal_less refl refl in cc)
  commute-step a b x xs ia ib iab iba Equal Less Greater e h = absurd (let no : Greater ≡ Less = h.equal_less refl refl in cc)
  commute-step a b x xs ia ib iab iba Equal Equal r e h = refl
  commute-step a b x xs ia ib iab iba Equal Greater r e h = refl
  commute-step a b x xs ia ib iab iba Greater Less Less e h = refl
  commute-step a b x xs ia ib iab iba Greater Less Equal e h = absurd (let no : Equal ≡ Less = h.greater_less refl refl in cc)
  commute-step a b x xs ia ib iab iba Greater Less Greater e h = absurd (let no : Greater ≡ Less = h.greater_less refl refl in cc)
  commute-step a b x xs ia ib iab iba Greater Equal r e h = refl
  commute-step a b x xs ia ib iab iba Greater Greater r e h = ap (λ t. x ∷ t) e

  -- The same, with the order of the two the other way round.
  commute-both : (a b x : K) (xs ia ib iab iba : List K) (p q r s : Ordering) → s ≡ ordering_reverse r → iab ≡ iba → Stand a b p q r
      → match_ordering p (match_ordering r (b ∷ a ∷ x ∷ xs) (a ∷ x ∷ xs) (a ∷ match_ordering q (b ∷ x ∷ xs) (x ∷ xs) (x ∷ ib))) (match_ordering q (b ∷ x ∷ xs) (x ∷ xs) (x ∷ ib))
      (match_ordering q (b ∷ x ∷ ia) (x ∷ ia) (x ∷ iab))
      ≡ match_ordering q (match_ordering s (a ∷ b ∷ x ∷ xs) (b ∷ x ∷ xs) (b ∷ match_ordering p (a ∷ x ∷ xs) (x ∷ xs) (x ∷ ia))) (match_ordering p (a ∷ x ∷ xs) (x ∷ xs) (x ∷ ia))
      (match_ordering p (a ∷ x ∷ ib) (x ∷ ib) (x ∷ iba))
  commute-both a b x xs ia ib iab iba p q r s back e h = rw back (commute-step a b x xs ia ib iab iba p q r e h)

  commute-two : (a b : K) (r : Ordering) → (r ≡ Equal → a ≡ b) → match_ordering r (b ∷ a ∷ []) (a ∷ []) (a ∷ b ∷ []) ≡ match_ordering (ordering_reverse r) (a ∷ b ∷ []) (b ∷ []) (b ∷ a ∷ [])
  commute-two a b Less same = refl
  commute-two a b Equal same = ap (λ t. t ∷ []) (same refl)
  commute-two a b Greater same = refl

  -- Two keys may be inserted in either order, if keys that compare as equal are one.
  pub insert-insert : ((x y : K) → R x y ≡ Equal → x ≡ y) → (a b : K) (xs : List K) → insert_key R (insert_key R xs a) b ≡ insert_key R (insert_key R xs b) a
  insert-insert exact a b [] = rw (o.antisymm a b) (commute-two a b (R b a) (λ e. sym (exact b a e)))
  insert-insert exact a b (x ∷ xs) =
      through (R a x) (a ∷ x ∷ xs) (x ∷ xs) (x ∷ insert_key R xs a) b
      ∙ commute-both a b x xs (insert_key R xs a) (insert_key R xs b) (insert_key R (insert_key R xs a) b) (insert_key R (insert_key R xs b) a) (R a x) (R b x) (R b a) (R a b) (o.antisymm a b)
      (insert-insert exact a b xs) (stand exact a b x)
      ∙ sym (through (R b x) (b ∷ x ∷ xs) (x ∷ xs) (x ∷ insert_key R xs b) a)
