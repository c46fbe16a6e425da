-- The length that digits spell, up to a bound, and the values that were found so far.
use Rattle.std.proofs.Common.{◌≡◌, ℕ, ◌+◌, ◌*◌, ◌-◌, ◌≤◌, ◌<◌, ◌&&◌, true, inl, inr, min, List, [], ◌∷◌, Option, Some, None, length, drop, get_or, add-one, drop-cons, refl, sym, ◌∙◌, ap, arith}
use Rattle.std.proofs.lemmas.Bool.{cases_lt}
use Rattle.std.specs.Borrow.{Bor}
use Rattle.std.specs.Char.{is_ascii_digit}
use Rattle.std.specs.Str.{all_ascii_digits}
use Rattle.arch_base.specs.Decimals.{read_on}

-- The value that was found, if one was, before others.
abbrev pub said_before : Option (Bor (List ℕ)) → List (List ℕ) → List (List ℕ)
said_before None values = values
said_before (Some value) values = value.now ∷ values

-- Digits that follow make no number less.
read_on-least : (n : ℕ) (ds : List ℕ) → n ≤ read_on n ds
read_on-least n [] = omega arith
read_on-least n (d ∷ ds) = let more = read_on-least (10 * n + (d - 48)) ds in omega (arith, more)

-- A number that is past the bound stays so.
pub read_on-min : (most n : ℕ) (ds : List ℕ) → min (read_on (min n most) ds) most ≡ min (read_on n ds) most
read_on-min most n ds = elim (cases_lt n most) [
  | inl less ↦ let same : min n most ≡ n = omega arith in rw same refl
  | inr large ↦
      let same : min n most ≡ most = omega arith in
      let first = read_on-least most ds in
      let second = read_on-least n ds in
      rw same (omega (arith, first, second))
]

-- One digit more.
pub digit-more : (len next d : ℕ) (ds value : List ℕ) → is_ascii_digit d ≡ true → next ≡ min (10 * len + (d - 48)) 268435457
    → all_ascii_digits (d ∷ ds) ≡ all_ascii_digits value → min (read_on len (d ∷ ds)) 268435457 ≡ min (read_on 0 value) 268435457
    → (next ≤ 268435457) × (all_ascii_digits ds ≡ all_ascii_digits value) × (min (read_on next ds) 268435457 ≡ min (read_on 0 value) 268435457)
digit-more len next d ds value digit e digits value_is =
    (omega (arith, e), ap (λ b. b && all_ascii_digits ds) (sym digit) ∙ digits, rw e (read_on-min 268435457 (10 * len + (d - 48)) ds ∙ value_is))

-- The digit at an index, and those after it.
pub next-digit : (i : ℕ) (value : List ℕ) → i < length value → drop i value ≡ get_or value i 0 ∷ drop (i + 1) value
next-digit i value within = rw add-one (drop-cons value i 0 within)
