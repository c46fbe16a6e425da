-- The bytes that an address has escaped are those that don't stand for themselves.
use Rattle.std.proofs.Common.{◌≡◌, ℕ, ◌/◌, ◌%◌, ◌<◌, Bool, true, false, not, cond, List, [], ◌∷◌, ◌++◌, All, refl, ap, ◌∙◌, arith}
use Rattle.std.specs.Fmt.{digit_glyph}
use Rattle.std.proofs.lemmas.Bool.{agree_below, agree_below_at}
use Rattle.std.proofs.lemmas.List.Elements.{All-head, All-tail}
use Rattle.percent_encoding.specs.AsciiSet.{should_percent_encode}
use Rattle.percent_encoding.specs.Percent.{encode_byte, percent_encode, percent_encode_byte}
use Rattle.web_text.specs.Addresses.{is_plain, in_address, escaped_bytes}
use Rattle.web_text.specs.declared.addresses.TheConstants.{ESCAPED}

-- The set, byte by byte.
table : agree_below (should_percent_encode ESCAPED) (λ b. not (is_plain b)) 256 ≡ true
unfolding should_percent_encode
table = refl

by_plain : (plain : Bool) (b : ℕ) → b < 256 → cond (not plain) (percent_encode_byte b) (b ∷ []) ≡ cond plain (b ∷ []) (37 ∷ digit_glyph true (b / 16) ∷ digit_glyph true (b % 16) ∷ [])
unfolding percent_encode_byte
by_plain true b small = refl
by_plain false b small =
    let high : b / 16 % 16 ≡ b / 16 = omega arith in
    ap (λ d. 37 ∷ digit_glyph true d ∷ digit_glyph true (b % 16) ∷ []) high

each : (b : ℕ) → b < 256 → encode_byte ESCAPED b ≡ in_address b
each b small =
    ap (λ escapes. cond escapes (percent_encode_byte b) (b ∷ [])) (agree_below_at (should_percent_encode ESCAPED) (λ b. not (is_plain b)) 256 b table small)
    ∙ by_plain (is_plain b) b small

-- The kit's escapes by the set are those of an address.
pub escaped-all : (bytes : List ℕ) → All (λ b. b < 256) bytes → percent_encode ESCAPED bytes ≡ escaped_bytes bytes
unfolding percent_encode escaped_bytes
escaped-all [] small = refl
escaped-all (b ∷ bytes) small =
    ap (λ t. t ++ percent_encode ESCAPED bytes) (each b (All-head (λ b. b < 256) b bytes small))
    ∙ ap (λ t. in_address b ++ t) (escaped-all bytes (All-tail (λ b. b < 256) b bytes small))
