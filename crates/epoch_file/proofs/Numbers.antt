-- The digits before the first NUL.
use Rattle.std.proofs.Common.{◌≡◌, ℕ, ◌+◌, ◌<◌, ◌≤◌, ◌^◌, List, ◌∷◌, ◌++◌, length, take, drop, Option, Some, sym, subst, ap, ◌∙◌, arith}
use Rattle.std.proofs.lemmas.List.{length-take-le}
use Rattle.std.proofs.lemmas.Fmt.{decimal_injective}
use Rattle.std.specs.Fmt.{decimal}
use Rattle.git_objects.specs.Fronts.{NoByte}
use Rattle.git_objects.proofs.Splitting.{NoByte-at, parted-once}
use Rattle.git_objects.proofs.Numbers.{NoByte-decimal}
use Rattle.epoch_file.proofs.Sizes.{digits-le}

-- Without a NUL there are no digits.
pub number-none : (bytes : List ℕ) (size : ℕ) (rest : List ℕ) → NoByte 0 bytes → bytes ≡ decimal size ++ 0 ∷ rest → ⊥
number-none bytes size rest none is = NoByte-at 0 (decimal size) rest (subst (NoByte 0) is none)

-- Otherwise the bytes before the first NUL are the digits.
pub number-front : (bytes : List ℕ) (at size : ℕ) (rest : List ℕ) → (at < length bytes) × NoByte 0 (take at bytes) × (bytes ≡ take at bytes ++ 0 ∷ drop (at + 1) bytes)
    → size < 2 ^ 64 → bytes ≡ decimal size ++ 0 ∷ rest → take at bytes ≡ decimal size
number-front bytes at size rest parts small is =
    (parted-once 0 (take at bytes) (decimal size) (drop (at + 1) bytes) rest parts.1 (NoByte-decimal 0 size (omega arith) small) (sym parts.2 ∙ is)).0

-- The digits spell the number.
pub number-found : (bytes : List ℕ) (at value size : ℕ) (rest : List ℕ) → (at < length bytes) × NoByte 0 (take at bytes) × (bytes ≡ take at bytes ++ 0 ∷ drop (at + 1) bytes)
    → value < 2 ^ 64 → take at bytes ≡ decimal value → size < 2 ^ 64 → bytes ≡ decimal size ++ 0 ∷ rest → ◌≡◌ {A = Option (ℕ × ℕ)} (Some (at, value)) (Some (length (decimal size), size))
number-found bytes at value size rest parts fits found small is =
    let front = number-front bytes at size rest parts small is in
    let len : at ≡ length (decimal size) = sym (length-take-le at bytes (omega (arith, parts.0))) ∙ ap length front in
    let same : value ≡ size = decimal_injective value size fits small (sym found ∙ front) in
    λ i. Some (len i, same i)

-- There are at most twenty digits.
pub number-bound : (bytes : List ℕ) (at value : ℕ) → at < length bytes → value < 2 ^ 64 → take at bytes ≡ decimal value → at ≤ 20
number-bound bytes at value inside fits found = omega (arith, length-take-le at bytes (omega (arith, inside)), ap length found, digits-le value fits)
