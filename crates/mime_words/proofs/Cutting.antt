-- The pieces of a value, one step further.
use Rattle.std.proofs.Common.{◌≡◌, ◌<◌, ◌+◌, ◌-◌, ◌∙◌, ℕ, zero, suc, List, [], ◌∷◌, ◌++◌, length, take, drop, Some, None, refl, ap, sym, append_assoc, arith}
use Rattle.std.proofs.Math.Seq.{take-add}
use Rattle.std.proofs.lemmas.List.{drop-drop}
use Rattle.mime_words.specs.declared.charset.Charset.{Charset}
use Rattle.mime_words.specs.Words.{EncodedText, bytes_of, word_at, word_len, charset_of, plain, pieces_of_word, pieces_at, pieces_from, pieces}

-- The bytes that belong to a word are skipped.
pub pieces_from-drop : (bs : List ℕ) (n : ℕ) → pieces_from bs n ≡ pieces (drop n bs)
pieces_from-drop [] zero = refl
pieces_from-drop [] (suc n) = refl
pieces_from-drop (b ∷ bs) zero = refl
pieces_from-drop (b ∷ bs) (suc n) = pieces_from-drop bs n

drop-pred : (b : ℕ) (bs : List ℕ) (n : ℕ) → 0 < n → drop (n - 1) bs ≡ drop n (b ∷ bs)
drop-pred b bs zero h = absurd (omega arith)
drop-pred b bs (suc n) h = let e : suc n - 1 ≡ n = omega arith in ap (λ k. drop k bs) e

-- The bytes start with no word.
pub pieces-no_word : (bytes : List ℕ) → 0 < length bytes → word_at bytes ≡ None → pieces bytes ≡ plain (take 1 bytes) ++ pieces (drop 1 bytes)
pieces-no_word [] h e = absurd (omega arith)
pieces-no_word (b ∷ bs) h e = ap (λ found. pieces_at found (b ∷ bs) (λ n. pieces_from bs n)) e

-- The bytes start with a word.
pub pieces-word : (bytes : List ℕ) (word : EncodedText) → 0 < length bytes → word_at bytes ≡ Some word
    → pieces bytes ≡ pieces_of_word (charset_of word.charset) word (take (word_len word) bytes) ++ pieces (drop (word_len word) bytes)
pieces-word [] word h e = absurd (omega arith)
pieces-word (b ∷ bs) word h e =
    let long : 0 < word_len word = omega arith in
    ap (λ found. pieces_at found (b ∷ bs) (λ n. pieces_from bs n)) e
    ∙ ap (λ ps. pieces_of_word (charset_of word.charset) word (take (word_len word) (b ∷ bs)) ++ ps) (pieces_from-drop bs (word_len word - 1) ∙ ap pieces (drop-pred b bs (word_len word) long))

-- A word of a charset that isn't decoded, and one of a charset that is.
pub pieces-text_word : (bytes : List ℕ) (word : EncodedText) → 0 < length bytes → word_at bytes ≡ Some word → charset_of word.charset ≡ None
    → pieces bytes ≡ plain (take (word_len word) bytes) ++ pieces (drop (word_len word) bytes)
pieces-text_word bytes word h e none =
    pieces-word bytes word h e ∙ ap (λ k. pieces_of_word k word (take (word_len word) bytes) ++ pieces (drop (word_len word) bytes)) none

pub pieces-read_word : (bytes : List ℕ) (word : EncodedText) (charset : Charset) → 0 < length bytes → word_at bytes ≡ Some word
    → charset_of word.charset ≡ Some charset
    → pieces bytes ≡ record { charset = Some charset; bytes = bytes_of word.encoding word.text } ∷ pieces (drop (word_len word) bytes)
pieces-read_word bytes word charset h e some =
    pieces-word bytes word h e ∙ ap (λ k. pieces_of_word k word (take (word_len word) bytes) ++ pieces (drop (word_len word) bytes)) some

pub plain-append : (xs ys : List ℕ) → plain (xs ++ ys) ≡ plain xs ++ plain ys
plain-append [] ys = refl
plain-append (x ∷ xs) ys = ap (λ ps. record { charset = None; bytes = x ∷ [] } ∷ ps) (plain-append xs ys)

-- More text is skipped.
pub cut_more : (value : List ℕ) (n m : ℕ) → pieces value ≡ plain (take n value) ++ pieces (drop n value)
    → pieces (drop n value) ≡ plain (take m (drop n value)) ++ pieces (drop m (drop n value))
    → pieces value ≡ plain (take (n + m) value) ++ pieces (drop (n + m) value)
cut_more value n m e h =
    let front : plain (take n value) ++ plain (take m (drop n value)) ≡ plain (take (n + m) value)
    = sym (plain-append (take n value) (take m (drop n value))) ∙ ap plain (sym (take-add n m value)) in
    let back : pieces (drop m (drop n value)) ≡ pieces (drop (n + m) value) = ap pieces (drop-drop m n value) in
    e ∙ ap (λ ps. plain (take n value) ++ ps) h ∙ sym (append_assoc (plain (take n value)) (plain (take m (drop n value))) (pieces (drop m (drop n value))))
    ∙ (λ i. front i ++ back i)
