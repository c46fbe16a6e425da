-- The first word of a line, and the words after it.
use Rattle.std.proofs.Common.{◌≡◌, ℕ, suc, ◌+◌, ◌<◌, Bool, true, false, not, cond, List, [], ◌∷◌, take, drop, refl, sym, ap, ◌∙◌, arith}
use Rattle.std.specs.List.{onto_first, prefix_len}
use Rattle.nntp_reader.specs.Words.{is_blank, is_word_byte, without_blanks, begins_word, words_of}

one-more : (n : ℕ) → 1 + n ≡ suc n
one-more n = omega arith

-- Blanks at the front make no word.
pub words_of-without_blanks : (line : List ℕ) → words_of (without_blanks line) ≡ words_of line
words_of-without_blanks [] = refl
words_of-without_blanks (b ∷ bs) = go (is_blank b) refl (words_of-without_blanks bs)
  where
    go : (w : Bool) → is_blank b ≡ w → words_of (without_blanks bs) ≡ words_of bs → words_of (drop (cond w (1 + prefix_len is_blank bs) 0) (b ∷ bs)) ≡ cond w (words_of bs) (cond (begins_word bs) (onto_first b (words_of bs)) ((b ∷ []) ∷ words_of bs))
    go true e ih = rw (one-more (prefix_len is_blank bs)) ih
    go false e ih = rw e refl

-- After them a word begins, or nothing is left.
pub begins_word-without_blanks : (line : List ℕ) → begins_word (without_blanks line) ≡ false → without_blanks line ≡ []
begins_word-without_blanks [] h = refl
begins_word-without_blanks (b ∷ bs) h = go (is_blank b) refl h (begins_word-without_blanks bs)
  where
    go : (w : Bool) → is_blank b ≡ w → begins_word (drop (cond w (1 + prefix_len is_blank bs) 0) (b ∷ bs)) ≡ false → (begins_word (without_blanks bs) ≡ false → without_blanks bs ≡ []) → drop (cond w (1 + prefix_len is_blank bs) 0) (b ∷ bs) ≡ []
    go true e k ih = rw (one-more (prefix_len is_blank bs)) (ih (rw (one-more (prefix_len is_blank bs)) at k))
    go false e k ih = let back : not false ≡ false = rw e at k in cc

-- A line that doesn't start with a byte of a word has no such bytes at its front.
pub no_front_bytes : (line : List ℕ) → begins_word line ≡ false → prefix_len is_word_byte line ≡ 0
no_front_bytes [] h = refl
no_front_bytes (b ∷ bs) h = rw h refl

pub begins_word-none : (line : List ℕ) → prefix_len is_word_byte line ≡ 0 → begins_word line ≡ false
begins_word-none [] h = refl
begins_word-none (b ∷ bs) h = go (is_word_byte b) h
  where
    go : (w : Bool) → cond w (1 + prefix_len is_word_byte bs) 0 ≡ 0 → w ≡ false
    go true k = absurd (omega arith)
    go false k = refl

-- The bytes at the front that are no blanks are the first word.
pub words_of-front : (line : List ℕ) → begins_word line ≡ true → words_of line ≡ take (prefix_len is_word_byte line) line ∷ words_of (drop (prefix_len is_word_byte line) line)
words_of-front [] h = cc
words_of-front (b ∷ bs) h = go (is_blank b) refl h (begins_word bs) refl (words_of-front bs)
  where
    go : (w : Bool) → is_blank b ≡ w → not w ≡ true → (more : Bool) → begins_word bs ≡ more → (begins_word bs ≡ true → words_of bs ≡ take (prefix_len is_word_byte bs) bs ∷ words_of (drop (prefix_len is_word_byte bs) bs)) → cond w (words_of bs) (cond more (onto_first b (words_of bs)) ((b ∷ []) ∷ words_of bs)) ≡ take (cond (not w) (1 + prefix_len is_word_byte bs) 0) (b ∷ bs) ∷ words_of (drop (cond (not w) (1 + prefix_len is_word_byte bs) 0) (b ∷ bs))
    go true e k more m ih = cc
    go false e k true m ih = rw (one-more (prefix_len is_word_byte bs), ih m) refl
    go false e k false m ih = rw (no_front_bytes bs m) refl

-- A line of blanks has no words.
pub words_of-none : (line : List ℕ) → prefix_len is_word_byte (without_blanks line) ≡ 0 → words_of line ≡ []
words_of-none line h = sym (words_of-without_blanks line) ∙ ap words_of (begins_word-without_blanks line (begins_word-none (without_blanks line) h))

-- The first word, and the words after it.
pub words_of-first : (line : List ℕ) → 0 < prefix_len is_word_byte (without_blanks line) → let body = without_blanks line in words_of line ≡ take (prefix_len is_word_byte body) body ∷ words_of (drop (prefix_len is_word_byte body) body)
words_of-first line h = sym (words_of-without_blanks line) ∙ words_of-front (without_blanks line) (go (begins_word (without_blanks line)) refl)
  where
    go : (w : Bool) → begins_word (without_blanks line) ≡ w → w ≡ true
    go true e = refl
    go false e = absurd (let none = no_front_bytes (without_blanks line) e in omega arith)
