-- How the tests of a line lead to its order.
use Rattle.std.proofs.Common.{◌≡◌, ◌-◌, ℕ, Bool, true, false, List, length, take, drop, take_all, length-drop, get_or, Option, Some, None, sym, arith, if◌then◌else◌}
use Rattle.std.specs.Prelude.{◌==◌}
use Rattle.std.specs.List.{position, position_or_len}
use Rattle.std.proofs.lemmas.Bool.{false≢true, false_from_ne_true}
use Rattle.std.proofs.lemmas.Bool.Decides.{nat_tests}
use Rattle.std.proofs.lemmas.List.Sums.{position_or_len_is}
use Rattle.memchr.specs.Find.{IsFirstByte, is_byte}

-- A test that fails, and one that holds.
pub passing : {X : Type 0} (t : Bool) (x y z : X) → t ≡ false → z ≡ y → z ≡ (if t then x else y)
passing true x y z fails is = absurd (false≢true (sym fails))
passing false x y z fails is = is

pub meeting : {X : Type 0} (t : Bool) (x y z : X) → t ≡ true → z ≡ x → z ≡ (if t then x else y)
meeting true x y z holds is = is
meeting false x y z holds is = absurd (false≢true holds)

-- All that follows some bytes.
pub all-after : (n : ℕ) (xs : List ℕ) → take (length xs - n) (drop n xs) ≡ drop n xs
all-after n xs = take_all (length xs - n) (drop n xs) (omega (arith, length-drop n xs))

-- The first place of a byte.
pub first-place : (byte : ℕ) (text : List ℕ) (found : Option ℕ) → IsFirstByte (is_byte byte) text found → position (λ b. b == byte) text ≡ found
first-place byte text None none =
    let at : position_or_len (λ b. b == byte) text ≡ length text = position_or_len_is (λ b. b == byte) text (length text) 0 (omega arith) (λ k less. false_from_ne_true (get_or text k 0 == byte) (none k (omega arith) less)) (λ less. absurd (omega (arith, less))) in
    rw at (grind (arith, nat_tests))
first-place byte text (Some n) first =
    let at : position_or_len (λ b. b == byte) text ≡ n = position_or_len_is (λ b. b == byte) text n 0 (omega (arith, first.0.high)) (λ k less. false_from_ne_true (get_or text k 0 == byte) (first.0.before k (omega arith) less)) (λ less. first.1) in
    rw at (grind (arith, nat_tests, first.0.high))
