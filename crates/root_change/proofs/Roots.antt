-- The root after a change of its epochs.
use Rattle.std.specs.Prelude.{◌≡◌, ◌≢◌, ◌⊎◌, ◌<◌, ◌≤◌, ◌==◌, nat_lt, true, false, ℕ, List, length, get_or, set}
use Rattle.std.proofs.Common.{inl, inr, arith}
use Rattle.std.proofs.lemmas.Bool.{cases_lt}
use Rattle.std.proofs.lemmas.Bool.Decides.{nat_tests}
use Rattle.std.proofs.lemmas.List.{get_or-set_same, get_or-set_other}
use Rattle.root_slots.specs.declared.root.Place.{Place}
use Rattle.root_slots.specs.Valid.{PlaceIsValid, no_place}

-- A number is this one or another.
pub equal_or_not : (m n : ℕ) → (m ≡ n) ⊎ (m ≢ n)
equal_or_not m n = elim (cases_lt m n) [
  | inl low ↦ inr (λ is. absurd (omega (arith, low, is)))
  | inr high ↦ elim (cases_lt n m) [ inl more ↦ inr (λ is. absurd (omega (arith, more, is))) | inr low ↦ inl (omega (arith, high, low)) ]
]

-- Tests on numbers that are equal, that aren't, and that are less.
pub same_test : (m n : ℕ) → m ≡ n → (m == n) ≡ true
same_test m n is = grind (arith, nat_tests)

pub other_test : (m n : ℕ) → m ≢ n → (m == n) ≡ false
other_test m n apart = grind (arith, nat_tests)

pub less_test : (m n : ℕ) → m < n → nat_lt m n ≡ true
less_test m n less = grind (arith, nat_tests)

pub least_test : (m n : ℕ) → n ≤ m → nat_lt m n ≡ false
least_test m n least = grind (arith, nat_tests)

-- Numbers that are 0, that are equal, and that are one after the other.
pub none_at_most : (m n : ℕ) → m ≡ 0 → m ≤ n
none_at_most m n none = omega (arith, none)

pub same_at_most : (m n : ℕ) → m ≡ n → m ≤ n
same_at_most m n same = omega (arith, same)

pub at_most_then : (l m n : ℕ) → l ≤ m → m ≤ n → l ≤ n
at_most_then l m n less more = omega (arith, less, more)

-- The places after one of them was set.
pub set_here : (places : List Place) (e : ℕ) (place : Place) → e < length places → get_or (set places e place) e no_place ≡ place
set_here places e place below = get_or-set_same places e place no_place below

pub set_elsewhere : (places : List Place) (e : ℕ) (place : Place) (n : ℕ) → n ≢ e → get_or (set places e place) n no_place ≡ get_or places n no_place
set_elsewhere places e place n apart = get_or-set_other places e n place no_place apart

-- A valid place stays valid for a later sequence.
pub later_place : (m n : ℕ) (place : Place) → m ≤ n → PlaceIsValid m place → PlaceIsValid n place
later_place m n place less valid = record { generation = (let g = valid.generation in omega (arith, g, less)); empty = valid.empty }
