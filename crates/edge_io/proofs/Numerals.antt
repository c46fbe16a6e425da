-- Numbers in a script.
use Rattle.std.proofs.Common.{◌≡◌, ◌≢◌, ◌<◌, ◌^◌, ℕ, true, List, [], ◌∷◌, sym, ◌∙◌, arith}
use Rattle.std.proofs.lemmas.Bool.Decides.{nat_tests}
use Rattle.std.proofs.lemmas.Fmt.{digits_decimal, decimal_injective}
use Rattle.std.specs.Fmt.{decimal}
use Rattle.std.specs.Str.{all_ascii_digits}
use Rattle.arch_base.proofs.Digits.{digits_model}
use Rattle.edge_io.specs.Parsing.{LacksByte}

-- Digits contain no byte below `0`.
digits-lack : (c : ℕ) (ds : List ℕ) → c < 48 → all_ascii_digits ds ≡ true → LacksByte c ds
digits-lack c [] low h = tt
digits-lack c (d ∷ ds) low h = (grind (arith, nat_tests), digits-lack c ds low (grind (arith, nat_tests)))

-- A decimal contains no space and no line feed.
pub decimal-lacks : (c n : ℕ) → c < 48 → n < 2 ^ 64 → LacksByte c (decimal n)
decimal-lacks c n low small = digits-lack c (decimal n) low (digits_decimal digits_model n small)

-- A text spells at most one number.
pub other-decimal : (text : List ℕ) (m n : ℕ) → m < 2 ^ 64 → n < 2 ^ 64 → text ≡ decimal m → m ≢ n → text ≢ decimal n
other-decimal text m n p q is differ same = differ (decimal_injective m n p q (sym is ∙ same))
