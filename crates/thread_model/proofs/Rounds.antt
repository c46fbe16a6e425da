-- What rounds reach.
use Rattle.std.proofs.Common.{◌≡◌, ◌⊎◌, ◌+◌, ◌≤◌, ◌<◌, ℕ, zero, suc, Bool, true, false, if◌then◌else◌, List, [], ◌∷◌, length, filter, flat_map, refl, sym, ◌∙◌, ap, inl, inr, arith}
use Rattle.std.proofs.lemmas.Bool.{cases_lt, false≢true}
use Rattle.thread_model.specs.Members.{Among, has}
use Rattle.thread_model.specs.Threads.{KeyedRow, shares, round, rounds, reached, thread, Respects, JoinsKeys, Linked}
use Rattle.thread_model.proofs.Members.{among-left, among-right, among-append, among-filter, among-filtered, among-flat_map, among-flattened, any-among, among-any, has-among, among-has}

-- How many items pass a test.
abbrev counted : {X : Type 0} → (X → Bool) → List X → ℕ
counted test [] = 0
counted test (x ∷ xs) = (if test x then 1 else 0) + counted test xs

counted-le-by : (m n : ℕ) (a b : Bool) → (a ≡ true → b ≡ true) → m ≤ n → (if a then 1 else 0) + m ≤ (if b then 1 else 0) + n
counted-le-by m n true true g ih = omega arith
counted-le-by m n true false g ih = absurd (false≢true (g refl))
counted-le-by m n false true g ih = omega arith
counted-le-by m n false false g ih = omega arith

counted-le : {X : Type 0} (p q : X → Bool) (xs : List X) → ((x : X) → p x ≡ true → q x ≡ true) → counted p xs ≤ counted q xs
counted-le p q [] f = omega arith
counted-le p q (y ∷ ys) f = counted-le-by (counted p ys) (counted q ys) (p y) (q y) (f y) (counted-le p q ys f)

counted-length-by : (m n : ℕ) (a : Bool) → m ≤ n → (if a then 1 else 0) + m ≤ suc n
counted-length-by m n true ih = omega arith
counted-length-by m n false ih = omega arith

counted-length : {X : Type 0} (p : X → Bool) (xs : List X) → counted p xs ≤ length xs
counted-length p [] = omega arith
counted-length p (y ∷ ys) = counted-length-by (counted p ys) (length ys) (p y) (counted-length p ys)

-- Of two counts, of which the first is of a stronger test: what the item in front shows.
same-here : (m n : ℕ) (a b : Bool) → m ≤ n → b ≡ true → (if b then 1 else 0) + n ≤ (if a then 1 else 0) + m → a ≡ true
same-here m n true b more e le = refl
same-here m n false true more e le = absurd (omega arith)
same-here m n false false more e le = absurd (false≢true e)

same-later : (m n : ℕ) (a b : Bool) → (a ≡ true → b ≡ true) → (if b then 1 else 0) + n ≤ (if a then 1 else 0) + m → n ≤ m
same-later m n true true g le = omega arith
same-later m n true false g le = absurd (false≢true (g refl))
same-later m n false true g le = omega arith
same-later m n false false g le = omega arith

-- If the weaker of two tests passes no more items, it passes the same.
count-same : {X : Type 0} (p q : X → Bool) (xs : List X) → ((x : X) → p x ≡ true → q x ≡ true) → counted q xs ≤ counted p xs → (x : X) → Among xs x → q x ≡ true → p x ≡ true
count-same p q [] f le x h t = absurd h
count-same p q (y ∷ ys) f le x (inl is) t = ap p is ∙ same-here (counted p ys) (counted q ys) (p y) (q y) (counted-le p q ys f) (sym (ap q is) ∙ t) le
count-same p q (y ∷ ys) f le x (inr h) t = count-same p q ys f (same-later (counted p ys) (counted q ys) (p y) (q y) (f y) le) x h t

counted-some-by : (n : ℕ) (a : Bool) → a ≡ true → 0 < (if a then 1 else 0) + n
counted-some-by n true e = omega arith
counted-some-by n false e = absurd (false≢true e)

counted-more-by : (n : ℕ) (a : Bool) → 0 < n → 0 < (if a then 1 else 0) + n
counted-more-by n true some = omega arith
counted-more-by n false some = omega arith

counted-some : {X : Type 0} (p : X → Bool) (xs : List X) (x : X) → Among xs x → p x ≡ true → 0 < counted p xs
counted-some p [] x h t = absurd h
counted-some p (y ∷ ys) x (inl is) t = counted-some-by (counted p ys) (p y) (sym (ap p is) ∙ t)
counted-some p (y ∷ ys) x (inr h) t = counted-more-by (counted p ys) (p y) (counted-some p ys x h t)

-- Rows that share a key.
pub shares-key : (keys : List (List ℕ)) (row : KeyedRow) → shares keys row ≡ true → (k : List ℕ) × Among row.1 k × Among keys k
shares-key keys row h = let r = any-among (has keys) row.1 h in (r.0, r.1, has-among keys r.0 r.2)

pub key-shares : (keys : List (List ℕ)) (row : KeyedRow) (k : List ℕ) → Among row.1 k → Among keys k → shares keys row ≡ true
key-shares keys row k h m = among-any (has keys) row.1 k h (among-has keys k m)

shares-more : (keys more : List (List ℕ)) → ((k : List ℕ) → Among keys k → Among more k) → (row : KeyedRow) → shares keys row ≡ true → shares more row ≡ true
shares-more keys more f row h = let r = shares-key keys row h in key-shares more row r.0 r.1 (f r.0 r.2)

-- One round.
round-adds : (rows : List KeyedRow) (keys : List (List ℕ)) (row : KeyedRow) → Among rows row → shares keys row ≡ true → (k : List ℕ) → Among row.1 k → Among (round rows keys) k
round-adds rows keys row h s k m =
    among-right keys (flat_map (λ (r : KeyedRow). r.1) (filter (shares keys) rows)) k
    (among-flattened (λ (r : KeyedRow). r.1) (filter (shares keys) rows) row k (among-filtered (shares keys) rows row h s) m)

round-keeps : (rows : List KeyedRow) (keys : List (List ℕ)) (k : List ℕ) → Among keys k → Among (round rows keys) k
round-keeps rows keys k h = among-left keys (flat_map (λ (r : KeyedRow). r.1) (filter (shares keys) rows)) k h

round-cases : (rows : List KeyedRow) (keys : List (List ℕ)) (k : List ℕ) → Among (round rows keys) k → Among keys k ⊎ ((row : KeyedRow) × Among rows row × (shares keys row ≡ true) × Among row.1 k)
round-cases rows keys k h = elim (among-append keys (flat_map (λ (r : KeyedRow). r.1) (filter (shares keys) rows)) k h) [
  | inl a ↦ inl a
  | inr b ↦
      let r = among-flat_map (λ (x : KeyedRow). x.1) (filter (shares keys) rows) k b in
      let s = among-filter (shares keys) rows r.0 r.1 in
      inr (r.0, s.0, s.1, r.2)
]

-- The keys have all keys of each row that shares one.
record Stable (rows : List KeyedRow) (keys : List (List ℕ)) : Type 0 where
  all : (row : KeyedRow) → Among rows row → shares keys row ≡ true → (k : List ℕ) → Among row.1 k → Among keys k

stable-round : (rows : List KeyedRow) (keys : List (List ℕ)) → counted (shares (round rows keys)) rows ≤ counted (shares keys) rows → Stable rows (round rows keys)
stable-round rows keys le = record {
  all = λ row h s k m. round-adds rows keys row h
      (count-same (shares keys) (shares (round rows keys)) rows (shares-more keys (round rows keys) (round-keeps rows keys)) le row h s) k m;
}

stable-inside : (rows : List KeyedRow) (keys : List (List ℕ)) → Stable rows keys → (k : List ℕ) → Among (round rows keys) k → Among keys k
stable-inside rows keys stable k h = elim (round-cases rows keys k h) [
  | inl a ↦ a
  | inr r ↦ stable.all r.0 r.1 r.2 k r.3
]

stable-kept : (rows : List KeyedRow) (keys : List (List ℕ)) → Stable rows keys → Stable rows (round rows keys)
stable-kept rows keys stable = record {
  all = λ row h s k m. round-keeps rows keys k
      (stable.all row h (shares-more (round rows keys) keys (stable-inside rows keys stable) row s) k m);
}

stable-rounds : (n : ℕ) (rows : List KeyedRow) (keys : List (List ℕ)) → Stable rows keys → Stable rows (rounds n rows keys)
stable-rounds zero rows keys stable = stable
stable-rounds (suc n) rows keys stable = stable-kept rows (rounds n rows keys) (stable-rounds n rows keys stable)

-- After so many rounds the keys are stable, or so many more rows share one.
progress : (n : ℕ) (rows : List KeyedRow) (keys : List (List ℕ)) → Stable rows (rounds n rows keys) ⊎ (n + counted (shares keys) rows ≤ counted (shares (rounds n rows keys)) rows)
progress zero rows keys = inr (omega arith)
progress (suc n) rows keys = elim (progress n rows keys) [
  | inl stable ↦ inl (stable-kept rows (rounds n rows keys) stable)
  | inr more ↦ elim (cases_lt (counted (shares (rounds n rows keys)) rows) (counted (shares (rounds (suc n) rows keys)) rows)) [
    | inl less ↦ inr (omega arith)
    | inr same ↦ inl (stable-round rows (rounds n rows keys) same)
  ]
]

stable-unshared : (rows : List KeyedRow) (keys : List (List ℕ)) → counted (shares keys) rows ≡ 0 → Stable rows keys
stable-unshared rows keys none = record {
  all = λ row h s k m. absurd (let some : 0 < counted (shares keys) rows = counted-some (shares keys) rows row h s in omega arith);
}

enough : (rows : List KeyedRow) (keys : List (List ℕ)) → Stable rows (rounds (length rows) rows keys)
enough rows keys = elim (progress (length rows) rows keys) [
  | inl stable ↦ stable
  | inr more ↦
      let le : counted (shares (rounds (length rows) rows keys)) rows ≤ length rows = counted-length (shares (rounds (length rows) rows keys)) rows in
      let none : counted (shares keys) rows ≡ 0 = omega arith in
      stable-rounds (length rows) rows keys (stable-unshared rows keys none)
]

-- As many rounds as there are rows are enough.
pub reached-stable : (rows : List KeyedRow) (keys : List (List ℕ)) (row : KeyedRow) → Among rows row → shares (reached rows keys) row ≡ true → (k : List ℕ) → Among row.1 k → Among (reached rows keys) k
unfolding reached
reached-stable rows keys row h s k m = (enough rows keys).all row h s k m

rounds-begin : (n : ℕ) (rows : List KeyedRow) (keys : List (List ℕ)) (k : List ℕ) → Among keys k → Among (rounds n rows keys) k
rounds-begin zero rows keys k h = h
rounds-begin (suc n) rows keys k h = round-keeps rows (rounds n rows keys) k (rounds-begin n rows keys k h)

-- The first keys are reached.
pub reached-begin : (rows : List KeyedRow) (keys : List (List ℕ)) (k : List ℕ) → Among keys k → Among (reached rows keys) k
unfolding reached
reached-begin rows keys k h = rounds-begin (length rows) rows keys k h

rounds-one : (n : ℕ) (rows : List KeyedRow) (keys : List (List ℕ)) (test : List ℕ → Bool) → Respects test rows → (b : Bool) → ((k : List ℕ) → Among keys k → test k ≡ b) → (k : List ℕ) → Among (rounds n rows keys) k → test k ≡ b
rounds-one zero rows keys test is b f k h = f k h
rounds-one (suc n) rows keys test is b f k h = elim (round-cases rows (rounds n rows keys) k h) [
  | inl a ↦ rounds-one n rows keys test is b f k a
  | inr r ↦
      let s = shares-key (rounds n rows keys) r.0 r.2 in
      is.same r.0 r.1 k s.0 r.3 s.1 ∙ rounds-one n rows keys test is b f s.0 s.2
]

-- A test that respects the rows is one for all that is reached if it is for the first keys.
pub reached-one : (rows : List KeyedRow) (keys : List (List ℕ)) (test : List ℕ → Bool) → Respects test rows → (b : Bool) → ((k : List ℕ) → Among keys k → test k ≡ b) → (k : List ℕ) → Among (reached rows keys) k → test k ≡ b
unfolding reached
reached-one rows keys test is b f k h = rounds-one (length rows) rows keys test is b f k h

pub same_bools : (a b : Bool) → (a ≡ true → b ≡ true) → (b ≡ true → a ≡ true) → a ≡ b
same_bools true true f g = refl
same_bools true false f g = sym (f refl)
same_bools false true f g = g refl
same_bools false false f g = refl

-- What is reached is a test that respects the rows.
pub reached-respects : (rows : List KeyedRow) (keys : List (List ℕ)) → Respects (has (reached rows keys)) rows
reached-respects rows keys = record {
  same = λ row h k m in_k in_m. same_bools (has (reached rows keys) k) (has (reached rows keys) m)
      (λ t. among-has (reached rows keys) m (reached-stable rows keys row h (key-shares (reached rows keys) row k in_k (has-among (reached rows keys) k t)) m in_m))
      (λ t. among-has (reached rows keys) k (reached-stable rows keys row h (key-shares (reached rows keys) row m in_m (has-among (reached rows keys) m t)) k in_k));
}

-- Nothing is reached from no keys.
pub reached-none : (rows : List KeyedRow) (k : List ℕ) → Among (reached rows []) k → ⊥
reached-none rows k h =
    false≢true (sym (reached-one rows [] (λ _. true) (record { same = λ row in' a b in_a in_b. refl }) false (λ m none. absurd none) k h))

-- Joined keys, and linked rows.
pub joined-sym : (rows : List KeyedRow) (k m : List ℕ) → JoinsKeys rows k m → JoinsKeys rows m k
joined-sym rows k m j = λ test is. sym (j test is)

pub linked-sym : (rows : List KeyedRow) (r s : KeyedRow) → Linked rows r s → Linked rows s r
linked-sym rows r s l = (l.1, l.0, l.3, l.2, joined-sym rows l.0 l.1 l.4)

pub linked-trans : (rows : List KeyedRow) (r s t : KeyedRow) → Among rows s → Linked rows r s → Linked rows s t → Linked rows r t
linked-trans rows r s t in_s a b = (a.0, b.1, a.2, b.3, λ test is. a.4 test is ∙ is.same s in_s a.1 b.0 a.3 b.2 ∙ b.4 test is)

-- Rows with a common key are linked.
pub linked-key : (rows : List KeyedRow) (r s : KeyedRow) (k : List ℕ) → Among r.1 k → Among s.1 k → Linked rows r s
linked-key rows r s k in_r in_s = (k, k, in_r, in_s, λ test is. refl)

-- Rows that are linked by some rows are linked by more.
pub linked-more : (rows later : List KeyedRow) → ((x : KeyedRow) → Among rows x → Among later x) → (r s : KeyedRow) → Linked rows r s → Linked later r s
linked-more rows later kept r s l = (l.0, l.1, l.2, l.3, λ test is. l.4 test (record { same = λ row h k m in_k in_m. is.same row (kept row h) k m in_k in_m }))

linked-from : (rows : List KeyedRow) (n : ℕ) (keys : List (List ℕ)) (s : KeyedRow) → Among rows (n, keys) → (k : List ℕ) → Among (reached rows keys) k → Among s.1 k → Linked rows (n, keys) s
linked-from rows n [] s in_r k there in_s = absurd (reached-none rows k there)
linked-from rows n (j ∷ js) s in_r k there in_s = (
  j,
  k,
  inl refl,
  in_s,
  λ test is.
      sym (reached-one rows (j ∷ js) test is (test j) (λ i in_i. is.same (n, j ∷ js) in_r i j in_i (inl refl)) k there),
)

-- Rows are in one thread exactly where they are linked.
pub thread-linked : (rows : List KeyedRow) (r s : KeyedRow) → Among rows r → Among (thread rows r.1) s → Linked rows r s
thread-linked rows r s in_r h =
    let p = among-filter (shares (reached rows r.1)) rows s h in
    let q = shares-key (reached rows r.1) s p.1 in
    linked-from rows r.0 r.1 s in_r q.0 q.2 q.1

pub linked-thread : (rows : List KeyedRow) (r s : KeyedRow) → Among rows s → Linked rows r s → Among (thread rows r.1) s
linked-thread rows r s in_s l =
    let e : has (reached rows r.1) l.0 ≡ has (reached rows r.1) l.1 = l.4 (has (reached rows r.1)) (reached-respects rows r.1) in
    let there : has (reached rows r.1) l.0 ≡ true = among-has (reached rows r.1) l.0 (reached-begin rows r.1 l.0 l.2) in
    among-filtered (shares (reached rows r.1)) rows s in_s
    (key-shares (reached rows r.1) s l.1 l.3 (has-among (reached rows r.1) l.1 (sym e ∙ there)))

pub thread-row : (rows : List KeyedRow) (keys : List (List ℕ)) (s : KeyedRow) → Among (thread rows keys) s → Among rows s
thread-row rows keys s h = (among-filter (shares (reached rows keys)) rows s h).0
