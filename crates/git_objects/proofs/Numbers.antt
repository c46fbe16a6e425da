-- Numbers in digits at the front of bytes, and contents after their size.
use Rattle.std.proofs.Common.{◌≡◌, ◌≢◌, ◌<◌, ◌+◌, ◌%◌, ◌^◌, ℕ, List, [], ◌∷◌, ◌++◌, sym, ap, subst, ◌∙◌, arith}
use Rattle.std.proofs.lemmas.Fmt.{decimal_by_steps, decimal_injective}
use Rattle.std.specs.Fmt.{decimal}
use Rattle.git_objects.specs.Fronts.{Lacks, Begins, NoByte}
use Rattle.git_objects.specs.Commits.{IsNumber, number_part}
use Rattle.git_objects.proofs.Splitting.{NoByte-append, NoByte-at, parted-once}

-- Digits contain no byte below `0`.
pub NoByte-decimal : (end n : ℕ) → end < 48 → n < 2 ^ 64 → NoByte end (decimal n)
NoByte-decimal end n low small =
    decimal_by_steps (λ m digits. NoByte end digits)
    (λ m one. (λ e. omega (arith, e), tt))
    (λ m digits more front. NoByte-append end digits ((48 + m % 10) ∷ []) front (λ e. omega (arith, e), tt))
    n small

-- Bytes without the byte that ends a number don't start with one.
pub number-none : (end : ℕ) (bytes : List ℕ) → NoByte end bytes → Lacks IsNumber (number_part end) bytes
number-none end bytes h = λ n rest valid is. NoByte-at end (decimal n) rest (subst (NoByte end) is h)

-- Bytes don't start with a number if the bytes before its end spell none.
pub number-other : (end : ℕ) (bytes digits rest : List ℕ) → end < 48 → NoByte end digits → bytes ≡ digits ++ end ∷ rest
    → ((n : ℕ) → n < 2 ^ 64 → digits ≢ decimal n) → Lacks IsNumber (number_part end) bytes
number-other end bytes digits rest low h e none = λ n more valid is.
    none n valid (parted-once end digits (decimal n) rest more h (NoByte-decimal end n low valid) (sym e ∙ is)).0

-- Otherwise the number is the one that they spell.
pub number-found : (end : ℕ) (bytes digits rest : List ℕ) (n : ℕ) → end < 48 → NoByte end digits → bytes ≡ digits ++ end ∷ rest
    → n < 2 ^ 64 → digits ≡ decimal n → Begins IsNumber (number_part end) bytes n rest
number-found end bytes digits rest n low h e small is = record {
  valid_one = small;
  spelled = e ∙ ap (λ d. d ++ end ∷ rest) is;
  only = λ m more valid same.
      let parts = parted-once end digits (decimal m) rest more h (NoByte-decimal end m low valid) (sym e ∙ same) in
      (decimal_injective n m small valid (sym is ∙ parts.0), parts.1);
}
