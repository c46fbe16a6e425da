-- A list with another item at an index.
use Rattle.std.specs.Prelude.{◌≡◌, ◌≢◌, ◌⊎◌, ℕ, zero, suc, List, [], ◌∷◌, length, slice_get, slice_set, Some, refl}
use Rattle.std.proofs.Common.{sym, ap, inl, inr, arith}
use Rattle.std.proofs.lemmas.Option.{same_Some, slice_get_within}

-- An item of it is the new one, or was there.
up : {A : Type 0} (xs : List A) (i j : ℕ) (y z : A) → ((j ≡ i) × (z ≡ y)) ⊎ ((j ≢ i) × (slice_get xs j ≡ Some z)) → ((suc j ≡ suc i) × (z ≡ y)) ⊎ ((suc j ≢ suc i) × (slice_get xs j ≡ Some z))
up xs i j y z (inl is) = inl (ap suc is.0, is.1)
up xs i j y z (inr other) = inr ((λ same. other.0 (let less : j ≡ i = omega (arith, same) in less)), other.1)

pub item_of_set : {A : Type 0} (xs : List A) (i j : ℕ) (y z : A) → slice_get (slice_set xs i y) j ≡ Some z → ((j ≡ i) × (z ≡ y)) ⊎ ((j ≢ i) × (slice_get xs j ≡ Some z))
item_of_set {A} [] i j y z here = absurd (let less = slice_get_within {A = A} [] j z here in omega (arith, less))
item_of_set (x ∷ xs) zero zero y z here = inl (refl, sym (same_Some y z here))
item_of_set (x ∷ xs) zero (suc j) y z here = inr ((λ same. omega (arith, same)), here)
item_of_set (x ∷ xs) (suc i) zero y z here = inr ((λ same. omega (arith, same)), here)
item_of_set (x ∷ xs) (suc i) (suc j) y z here = up xs i j y z (item_of_set xs i j y z here)

pub count_of_set : {A : Type 0} (xs : List A) (i : ℕ) (y : A) → length (slice_set xs i y) ≡ length xs
count_of_set [] i y = refl
count_of_set (x ∷ xs) zero y = refl
count_of_set (x ∷ xs) (suc i) y = ap suc (count_of_set xs i y)

-- The item there, and the others.
pub set_here : {A : Type 0} (xs : List A) (i : ℕ) (x y : A) → slice_get xs i ≡ Some x → slice_get (slice_set xs i y) i ≡ Some y
set_here {A} [] i x y here = absurd (let less = slice_get_within {A = A} [] i x here in omega (arith, less))
set_here (z ∷ xs) zero x y here = refl
set_here (z ∷ xs) (suc i) x y here = set_here xs i x y here

pub set_other : {A : Type 0} (xs : List A) (i j : ℕ) (y : A) → j ≢ i → slice_get (slice_set xs i y) j ≡ slice_get xs j
set_other [] i j y apart = refl
set_other (z ∷ xs) zero zero y apart = absurd (apart refl)
set_other (z ∷ xs) zero (suc j) y apart = refl
set_other (z ∷ xs) (suc i) zero y apart = refl
set_other (z ∷ xs) (suc i) (suc j) y apart = set_other xs i j y (λ same. apart (ap suc same))
