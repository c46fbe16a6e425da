-- Decoding encoded bytes gives them back; equal bytes compare as equal.
use Rattle.std.proofs.Common.{◌∷◌, [], true, eq-eqb, ◌≡◌, ℕ, List, length, Result, Ok, Err, MatchResult, refl, ◌∙◌, ap, sym, ◌≤◌, take}
use Rattle.std.proofs.lemmas.List.{length-take-le}
use Rattle.std.specs.Str.{bytes_eq}
use Rattle.hex.specs.Hex.{encode_lower, decode_sized, IsBytes}
use Rattle.hex.specs.declared.error.FromHexError.{FromHexError}
use Rattle.hex.proofs.HexLemmas.{decode_sized-encode_lower}

-- The result of decoding a text into a buffer of `room` bytes.
abbrev pub Decodes : List ℕ → ℕ → List ℕ → Result Unit FromHexError → Type 0
Decodes text room out answer = MatchResult (decode_sized text room) (λ bytes. (answer ≡ Ok tt) × (out ≡ bytes)) (λ e. answer ≡ Err e)

-- Decoding the digits of bytes into the front of a buffer, as long as they are, returns those bytes.
pub decodes-encode : (text xs buffer out : List ℕ) (room : ℕ) (answer : Result Unit FromHexError) → length xs ≡ room → room ≤ length buffer → IsBytes xs → text ≡ encode_lower xs → Decodes text (length (take room buffer)) out answer → (answer ≡ Ok tt) × (out ≡ xs)
decodes-encode text xs buffer out room answer len fits bytes is h =
    let sized : length xs ≡ length (take room buffer) = len ∙ sym (length-take-le room buffer fits) in
    let decoded : decode_sized text (length (take room buffer)) ≡ Ok xs = ap (λ t. decode_sized t (length (take room buffer))) is ∙ decode_sized-encode_lower xs _ sized bytes in
    rw decoded at h

-- `bytes_eq` returns true for equal bytes.
pub bytes_eq-same : (a b : List ℕ) → a ≡ b → bytes_eq a b ≡ true
bytes_eq-same a b is = ap (λ t. bytes_eq t b) is ∙ bytes_eq-self b
  where
    bytes_eq-self : (b : List ℕ) → bytes_eq b b ≡ true
    bytes_eq-self [] = refl
    bytes_eq-self (c ∷ cs) = rw (eq-eqb c c refl) (bytes_eq-self cs)
