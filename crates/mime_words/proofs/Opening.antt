-- The parts of an encoded word.
use Rattle.std.proofs.Common.{◌≡◌, ◌≤◌, ◌+◌, ◌-◌, ◌∙◌, ℕ, Bool, true, false, cond, nat_eq, List, length, take, drop, Option, Some, None, option_and_then, refl, ap, sym, subst, arith, length-drop, ne_eqb}
use Rattle.std.proofs.lemmas.List.{drop-drop, length-take-le}
use Rattle.std.specs.List.{prefix_len}
use Rattle.mime_words.specs.declared.encoding.Encoding.{Encoding}
use Rattle.mime_words.specs.declared.words.EncodedWord.{EncodedWord}
use Rattle.mime_words.specs.Words.{EncodedText, is_charset_byte, encoding_at, closed_word, opened_word}
use Rattle.mime_words.specs.Writing.{IsWordOf}

-- A word whose charset's name has this length.
abbrev pub opened_at : ℕ → List ℕ → Option EncodedText
opened_at n inside = cond (nat_eq n 0) None (option_and_then (closed_word (take n inside) (drop (n + 3) inside)) (encoding_at (drop n inside)))

by_false : (t : Bool) (x : Option EncodedText) → t ≡ false → cond t None x ≡ x
by_false true x e = cc
by_false false x e = refl

pub opened_at-is : (n : ℕ) (inside : List ℕ) (encoding : Encoding) → (n ≡ 0 → ⊥) → encoding_at (drop n inside) ≡ Some encoding
    → opened_at n inside ≡ closed_word (take n inside) (drop (n + 3) inside) encoding
opened_at-is n inside encoding some e =
    by_false (nat_eq n 0) _ (ne_eqb n 0 some) ∙ ap (option_and_then (closed_word (take n inside) (drop (n + 3) inside))) e

-- The word that is found after the encoding is the word that is found after `=?`.
pub opened : (inside charset after rest : List ℕ) (n : ℕ) (encoding : Encoding) (found : Option EncodedWord) → n ≡ prefix_len is_charset_byte inside
    → n ≤ length inside → (n ≡ 0 → ⊥) → charset ≡ take n inside → after ≡ drop n inside → encoding_at after ≡ Some encoding → 3 ≤ length after
    → rest ≡ drop 3 after → IsWordOf (closed_word charset rest encoding) (length charset + length rest + 5) found
    → IsWordOf (opened_word inside) (length inside + 2) found
opened inside charset after rest n encoding found is within some front back e long last h =
    let end : rest ≡ drop (n + 3) inside = last ∙ ap (drop 3) back ∙ drop-drop 3 n inside in
    let value : closed_word charset rest encoding ≡ opened_word inside =
    (λ i. closed_word (front i) (end i) encoding) ∙ sym (opened_at-is n inside encoding some (ap encoding_at (sym back) ∙ e)) ∙ ap (λ k. opened_at k inside) is in
    let front_len : length charset ≡ n = ap length front ∙ length-take-le n inside within in
    let back_len : length after ≡ length inside - n = ap length back ∙ length-drop n inside in
    let rest_len : length rest ≡ length after - 3 = ap length last ∙ length-drop 3 after in
    let room : length charset + length rest + 5 ≡ length inside + 2 = omega arith in
    subst (λ (w : Option EncodedText). IsWordOf w (length inside + 2) found) value (subst (λ (m : ℕ). IsWordOf (closed_word charset rest encoding) m found) room h)
