-- What the kit reads of two hexadecimal digits is the byte that they spell.
use Rattle.std.proofs.Common.{◌≡◌, ℕ, ◌+◌, ◌*◌, ◌≤◌, Option, Some, None, Ok, List, [], ◌∷◌, length, get_or, refl, sym, ap, ◌∙◌, arith}
use Rattle.std.specs.Prelude.{option_map}
use Rattle.std.specs.Result.{result_ok}
use Rattle.hex.specs.Hex.{hex_digit_value, digit_or_error, decode_pairs, ◌>>=◌}
use Rattle.mime_words.specs.Quoted.{spelled, escape}

-- One byte alone.
abbrev alone : ℕ → List ℕ
alone byte = byte ∷ []

pair : (x y : ℕ) → result_ok (decode_pairs 0 (x ∷ y ∷ [])) ≡ option_map alone (spelled (hex_digit_value x) (hex_digit_value y))
unfolding decode_pairs
pair x y = step (hex_digit_value x) (hex_digit_value y)
  where
    step : (m n : Option ℕ)
        → result_ok ((digit_or_error x 0 m >>= (λ high. digit_or_error y 1 n >>= (λ low. Ok (high * 16 + low)))) >>= (λ byte. Ok (byte ∷ [])))
        ≡ option_map alone (spelled m n)
    step None n = refl
    step (Some high) None = refl
    step (Some high) (Some low) =
        let same : high * 16 + low ≡ 16 * high + low = omega arith in
        ap (λ byte. Some (byte ∷ [])) same

read : (text : List ℕ) → 3 ≤ length text → get_or text 0 0 ≡ 61
    → result_ok (decode_pairs 0 (get_or text 1 0 ∷ get_or text 2 0 ∷ [])) ≡ option_map alone (escape text)
read [] n e = absurd (omega arith)
read (b ∷ []) n e = absurd (omega arith)
read (b ∷ x ∷ []) n e = absurd (omega arith)
read (b ∷ x ∷ y ∷ bs) n e = rw e (pair x y)

none-of : (o : Option ℕ) → option_map alone o ≡ None → None ≡ o
none-of None h = refl
none-of (Some byte) h = cc

some-of : (o : Option ℕ) (bytes : List ℕ) → option_map alone o ≡ Some bytes → Some (get_or bytes 0 0) ≡ o
some-of None bytes h = cc
some-of (Some byte) bytes h =
    let is : alone byte ≡ bytes = cc in
    ap (λ (bs : List ℕ). Some (get_or bs 0 0)) (sym is)

pub read-none : (text : List ℕ) → 3 ≤ length text → get_or text 0 0 ≡ 61
    → result_ok (decode_pairs 0 (get_or text 1 0 ∷ get_or text 2 0 ∷ [])) ≡ None → None ≡ escape text
read-none text n e h = none-of (escape text) (sym (read text n e) ∙ h)

pub read-some : (text bytes : List ℕ) → 3 ≤ length text → get_or text 0 0 ≡ 61
    → result_ok (decode_pairs 0 (get_or text 1 0 ∷ get_or text 2 0 ∷ [])) ≡ Some bytes → Some (get_or bytes 0 0) ≡ escape text
read-some text bytes n e h = some-of (escape text) bytes (sym (read text n e) ∙ h)
