-- Texts, one character after another.
use Rattle.std.proofs.Common.{◌≡◌, ℕ, List, [], ◌++◌, length, chars, encode_utf8, IsUtf8, ap, ◌∙◌}
use Rattle.std.specs.List.{flat_map}
use Rattle.std.proofs.lemmas.List.{nil_from_length}
use Rattle.std.proofs.lemmas.Str.{chars_past_char, chars-nil}
use Rattle.web_text.specs.Escapes.{spelled, escaped_chars}

-- The next character.
pub escaped-step : (text rest : List ℕ) (c : ℕ) → IsUtf8 text → text ≡ encode_utf8 c ++ rest → escaped_chars text ≡ spelled c ++ escaped_chars rest
unfolding escaped_chars
escaped-step text rest c utf8 parts = ap (flat_map spelled) (chars_past_char text rest c utf8 parts)

-- No character is left.
pub escaped-empty : (text : List ℕ) → length text ≡ 0 → escaped_chars text ≡ []
unfolding escaped_chars
escaped-empty text none = ap (flat_map spelled) (ap chars (nil_from_length text none) ∙ chars-nil)
