-- The first word of a text, and the words after it.
use Rattle.std.proofs.Common.{◌≡◌, ℕ, suc, ◌+◌, ◌<◌, Bool, true, false, not, cond, List, [], ◌∷◌, take, drop, refl, sym, ap, ◌∙◌, arith}
use Rattle.std.specs.List.{onto_first, prefix_len}
use Rattle.mail_date.specs.Words.{is_white, is_word_byte, without_white, begins_word, words_of}

one-more : (n : ℕ) → 1 + n ≡ suc n
one-more n = omega arith

-- White space at the front makes no word.
pub words_of-without_white : (text : List ℕ) → words_of (without_white text) ≡ words_of text
words_of-without_white [] = refl
words_of-without_white (b ∷ bs) = go (is_white b) refl (words_of-without_white bs)
  where
    go : (w : Bool) → is_white b ≡ w → words_of (without_white bs) ≡ words_of bs → words_of (drop (cond w (1 + prefix_len is_white bs) 0) (b ∷ bs)) ≡ cond w (words_of bs) (cond (begins_word bs) (onto_first b (words_of bs)) ((b ∷ []) ∷ words_of bs))
    go true e ih = rw (one-more (prefix_len is_white bs)) ih
    go false e ih = rw e refl

-- After it a word begins, or nothing is left.
pub begins_word-without_white : (text : List ℕ) → begins_word (without_white text) ≡ false → without_white text ≡ []
begins_word-without_white [] h = refl
begins_word-without_white (b ∷ bs) h = go (is_white b) refl h (begins_word-without_white bs)
  where
    go : (w : Bool) → is_white b ≡ w → begins_word (drop (cond w (1 + prefix_len is_white bs) 0) (b ∷ bs)) ≡ false → (begins_word (without_white bs) ≡ false → without_white bs ≡ []) → drop (cond w (1 + prefix_len is_white bs) 0) (b ∷ bs) ≡ []
    go true e k ih = rw (one-more (prefix_len is_white bs)) (ih (rw (one-more (prefix_len is_white bs)) at k))
    go false e k ih = let back : not false ≡ false = rw e at k in cc

-- A text that doesn't start with a byte of a word has no such bytes at its front.
pub no_front_bytes : (text : List ℕ) → begins_word text ≡ false → prefix_len is_word_byte text ≡ 0
no_front_bytes [] h = refl
no_front_bytes (b ∷ bs) h = rw h refl

pub begins_word-none : (text : List ℕ) → prefix_len is_word_byte text ≡ 0 → begins_word text ≡ false
begins_word-none [] h = refl
begins_word-none (b ∷ bs) h = go (is_word_byte b) h
  where
    go : (w : Bool) → cond w (1 + prefix_len is_word_byte bs) 0 ≡ 0 → w ≡ false
    go true k = absurd (omega arith)
    go false k = refl

-- The bytes at the front that aren't white space are the first word.
pub words_of-front : (text : List ℕ) → begins_word text ≡ true → words_of text ≡ take (prefix_len is_word_byte text) text ∷ words_of (drop (prefix_len is_word_byte text) text)
words_of-front [] h = cc
words_of-front (b ∷ bs) h = go (is_white b) refl h (begins_word bs) refl (words_of-front bs)
  where
    go : (w : Bool) → is_white b ≡ w → not w ≡ true → (more : Bool) → begins_word bs ≡ more → (begins_word bs ≡ true → words_of bs ≡ take (prefix_len is_word_byte bs) bs ∷ words_of (drop (prefix_len is_word_byte bs) bs)) → cond w (words_of bs) (cond more (onto_first b (words_of bs)) ((b ∷ []) ∷ words_of bs)) ≡ take (cond (not w) (1 + prefix_len is_word_byte bs) 0) (b ∷ bs) ∷ words_of (drop (cond (not w) (1 + prefix_len is_word_byte bs) 0) (b ∷ bs))
    go true e k more m ih = cc
    go false e k true m ih = rw (one-more (prefix_len is_word_byte bs), ih m) refl
    go false e k false m ih = rw (no_front_bytes bs m) refl

-- A text of white space has no words.
pub words_of-none : (text : List ℕ) → prefix_len is_word_byte (without_white text) ≡ 0 → words_of text ≡ []
words_of-none text h = sym (words_of-without_white text) ∙ ap words_of (begins_word-without_white text (begins_word-none (without_white text) h))

-- The first word, and the words after it.
pub words_of-first : (text : List ℕ) → 0 < prefix_len is_word_byte (without_white text) → let body = without_white text in words_of text ≡ take (prefix_len is_word_byte body) body ∷ words_of (drop (prefix_len is_word_byte body) body)
words_of-first text h = sym (words_of-without_white text) ∙ words_of-front (without_white text) (go (begins_word (without_white text)) refl)
  where
    go : (w : Bool) → begins_word (without_white text) ≡ w → w ≡ true
    go true e = refl
    go false e = absurd (let none = no_front_bytes (without_white text) e in omega arith)
