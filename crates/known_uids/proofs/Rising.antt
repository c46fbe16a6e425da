-- Lists that rise, and what is in them.
use Rattle.std.proofs.Common.{◌⊎◌, inl, inr, ◌≡◌, ◌≢◌, ◌+◌, ◌-◌, ◌<◌, ◌≤◌, ◌==◌, ℕ, Bool, true, false, ◌||◌, List, [], ◌∷◌, ◌++◌, length, get_or, refl, sym, ap, ◌∙◌, arith}
use Rattle.std.proofs.lemmas.Bool.Decides.{eqb_tells}
use Rattle.known_uids.specs.Told.{RisesBelow, after_last, has}

-- A number that isn't another one.
pub apart : (m n : ℕ) → m ≢ n → (m == n) ≡ false
apart m n ne = by (eqb_tells m n) where
  by : (((m == n) ≡ true) × (m ≡ n)) ⊎ (((m == n) ≡ false) × (m ≢ n)) → (m == n) ≡ false
  by (inl same) = absurd (ne same.1)
  by (inr other) = other.0

pub same : (n : ℕ) → (n == n) ≡ true
same n = by (eqb_tells n n) where
  by : (((n == n) ≡ true) × (n ≡ n)) ⊎ (((n == n) ≡ false) × (n ≢ n)) → (n == n) ≡ true
  by (inl same) = same.0
  by (inr other) = absurd (other.1 refl)

-- The bound isn't less than the first number.
pub rising-le : (first : ℕ) (ns : List ℕ) (bound : ℕ) → RisesBelow first ns bound → first ≤ bound
rising-le first [] bound rises = rises
rising-le first (n ∷ ns) bound rises = let more : n + 1 ≤ bound = rising-le (n + 1) ns bound rises.1 in omega (arith, rises.0, more)

pub rising-wider : (first : ℕ) (ns : List ℕ) (bound more : ℕ) → bound ≤ more → RisesBelow first ns bound → RisesBelow first ns more
rising-wider first [] bound more le rises = omega (arith, le, rises)
rising-wider first (n ∷ ns) bound more le rises = (rises.0, rising-wider (n + 1) ns bound more le rises.1)

pub rising-low : (less first : ℕ) (ns : List ℕ) (bound : ℕ) → less ≤ first → RisesBelow first ns bound → RisesBelow less ns bound
rising-low less first [] bound le rises = omega (arith, le, rises)
rising-low less first (n ∷ ns) bound le rises = (omega (arith, le, rises.0), rises.1)

-- One more number, and more of them.
pub rising-push : (first : ℕ) (ns : List ℕ) (m n : ℕ) → RisesBelow first ns m → m ≤ n → RisesBelow first (ns ++ n ∷ []) (n + 1)
rising-push first [] m n rises le = (omega (arith, rises, le), omega arith)
rising-push first (k ∷ ks) m n rises le = (rises.0, rising-push (k + 1) ks m n rises.1 le)

pub rising-append : (first : ℕ) (xs ys : List ℕ) (m bound : ℕ) → RisesBelow first xs m → RisesBelow m ys bound → RisesBelow first (xs ++ ys) bound
rising-append first [] ys m bound front back = rising-low first m ys bound front back
rising-append first (x ∷ xs) ys m bound front back = (front.0, rising-append (x + 1) xs ys m bound front.1 back)

-- The number after the last is a bound.
pub rising-after : (first : ℕ) (ns : List ℕ) (bound : ℕ) → RisesBelow first ns bound → RisesBelow first ns (after_last first ns)
rising-after first [] bound rises = omega arith
rising-after first (n ∷ ns) bound rises = (rises.0, rising-after (n + 1) ns bound rises.1)

pub after-le : (first : ℕ) (ns : List ℕ) (bound : ℕ) → RisesBelow first ns bound → after_last first ns ≤ bound
after-le first [] bound rises = rises
after-le first (n ∷ ns) bound rises = after-le (n + 1) ns bound rises.1

pub after-append : (first : ℕ) (xs ys : List ℕ) → after_last first (xs ++ ys) ≡ after_last (after_last first xs) ys
after-append first [] ys = refl
after-append first (x ∷ xs) ys = after-append (x + 1) xs ys

-- It is one more than the last one.
pub after-last : (first n : ℕ) (ns : List ℕ) → after_last first (n ∷ ns) ≡ get_or (n ∷ ns) (length ns) 0 + 1
after-last first n [] = refl
after-last first n (m ∷ ms) = after-last (n + 1) m ms

pub after-end : (first : ℕ) (ns : List ℕ) → 1 ≤ length ns → get_or ns (length ns - 1) 0 + 1 ≡ after_last first ns
after-end first [] some = absurd (omega (arith, some))
after-end first (n ∷ ns) some = let at : length (n ∷ ns) - 1 ≡ length ns = omega arith in ap (λ i. get_or (n ∷ ns) i 0 + 1) at ∙ sym (after-last first n ns)

-- Both parts rise.
pub rising-front : (first : ℕ) (xs ys : List ℕ) (bound : ℕ) → RisesBelow first (xs ++ ys) bound → RisesBelow first xs (after_last first xs)
rising-front first [] ys bound rises = omega arith
rising-front first (x ∷ xs) ys bound rises = (rises.0, rising-front (x + 1) xs ys bound rises.1)

pub rising-back : (first : ℕ) (xs ys : List ℕ) (bound : ℕ) → RisesBelow first (xs ++ ys) bound → RisesBelow (after_last first xs) ys bound
rising-back first [] ys bound rises = rises
rising-back first (x ∷ xs) ys bound rises = rising-back (x + 1) xs ys bound rises.1

-- There are at most as many as the bound lets.
pub rising-length : (first : ℕ) (ns : List ℕ) (bound : ℕ) → RisesBelow first ns bound → first + length ns ≤ bound
rising-length first [] bound rises = omega (arith, rises)
rising-length first (n ∷ ns) bound rises = let more : n + 1 + length ns ≤ bound = rising-length (n + 1) ns bound rises.1 in omega (arith, rises.0, more)

-- A number below the first, and one that isn't below the bound, isn't one of them.
pub has-below : (first : ℕ) (ns : List ℕ) (bound n : ℕ) → RisesBelow first ns bound → n < first → has ns n ≡ false
has-below first [] bound n rises less = refl
has-below first (m ∷ ms) bound n rises less =
    let other : (m == n) ≡ false = apart m n (λ e. omega (arith, e, rises.0, less)) in
    ap (λ t. t || has ms n) other ∙ has-below (m + 1) ms bound n rises.1 (omega (arith, rises.0, less))

pub has-above : (first : ℕ) (ns : List ℕ) (bound n : ℕ) → RisesBelow first ns bound → bound ≤ n → has ns n ≡ false
has-above first [] bound n rises le = refl
has-above first (m ∷ ms) bound n rises le =
    let most : m + 1 ≤ bound = rising-le (m + 1) ms bound rises.1 in
    let other : (m == n) ≡ false = apart m n (λ e. omega (arith, e, most, le)) in
    ap (λ t. t || has ms n) other ∙ has-above (m + 1) ms bound n rises.1 le

pub has-append : (xs ys : List ℕ) (n : ℕ) → has (xs ++ ys) n ≡ (has xs n || has ys n)
has-append [] ys n = refl
has-append (x ∷ xs) ys n = ap (λ t. (x == n) || t) (has-append xs ys n) ∙ joined (x == n) (has xs n) (has ys n) where
  joined : (a b c : Bool) → (a || (b || c)) ≡ ((a || b) || c)
  joined true b c = refl
  joined false b c = refl
