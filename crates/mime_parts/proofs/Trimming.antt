-- Bytes without the blanks at their end.
use Rattle.std.proofs.Common.{◌≡◌, ℕ, ◌-◌, ◌<◌, true, false, List, [], ◌∷◌, ◌++◌, length, take, get_or, reverse, refl, sym, ap, ◌∙◌, arith}
use Rattle.std.proofs.lemmas.List.{reverse-append, reverse-reverse}
use Rattle.mail_reader.proofs.Trims.{front_and_last}
use Rattle.mime_parts.specs.Delimiters.{is_blank}
use Rattle.mime_parts.specs.QuotedPrintable.{skip_blank, trimmed}

push_blank : (xs : List ℕ) (b : ℕ) → is_blank b ≡ true → trimmed (xs ++ b ∷ []) ≡ trimmed xs
push_blank xs b h = ap (λ ys. reverse (skip_blank ys)) (reverse-append xs (b ∷ [])) ∙ rw h refl

push_other : (xs : List ℕ) (b : ℕ) → is_blank b ≡ false → trimmed (xs ++ b ∷ []) ≡ xs ++ b ∷ []
push_other xs b h =
    ap (λ ys. reverse (skip_blank ys)) (reverse-append xs (b ∷ []))
    ∙ rw h (ap reverse (sym (reverse-append xs (b ∷ []))) ∙ reverse-reverse (xs ++ b ∷ []))

-- A blank at the end is removed.
pub trimmed_blank : (bytes : List ℕ) → 0 < length bytes → is_blank (get_or bytes (length bytes - 1) 0) ≡ true → trimmed bytes ≡ trimmed (take (length bytes - 1) bytes)
trimmed_blank bytes l h =
    ap trimmed (front_and_last bytes l) ∙ push_blank (take (length bytes - 1) bytes) (get_or bytes (length bytes - 1) 0) h

-- Bytes that don't end with a blank stay.
pub trimmed_other : (bytes : List ℕ) → is_blank (get_or bytes (length bytes - 1) 0) ≡ false → trimmed bytes ≡ bytes
trimmed_other [] h = refl
trimmed_other (b ∷ bs) h =
    let split = front_and_last (b ∷ bs) (omega arith) in
    ap trimmed split ∙ push_other (take (length (b ∷ bs) - 1) (b ∷ bs)) (get_or (b ∷ bs) (length (b ∷ bs) - 1) 0) h ∙ sym split
