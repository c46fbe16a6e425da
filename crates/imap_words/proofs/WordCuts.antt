-- The words of a text, by its first one.
use Rattle.std.proofs.Common.{◌≡◌, ◌<◌, ◌+◌, ℕ, zero, suc, Bool, true, false, not, ◌==◌, List, [], ◌∷◌, length, take, drop, if◌then◌else◌, refl, sym, ap, ◌∙◌, arith, add-one, one-add, length-drop}
use Rattle.std.specs.List.{prefix_len}
use Rattle.imap_words.specs.Words.{is_other, longer_first, words_at}

module _ (b c : ℕ) (cs : List ℕ) where
  whole-by : (t : Bool) → (prefix_len (is_other b) cs ≡ length cs → words_at b cs ≡ cs ∷ [])
      → (if not t then 1 + prefix_len (is_other b) cs else 0) ≡ suc (length cs)
      → (if t then [] ∷ words_at b cs else longer_first c (words_at b cs)) ≡ (c ∷ cs) ∷ []
  whole-by true ih h = absurd (omega arith)
  whole-by false ih h = rw (ih (omega arith)) refl

  first-by : (t : Bool)
      → (prefix_len (is_other b) cs < length cs
      → words_at b cs ≡ take (prefix_len (is_other b) cs) cs ∷ words_at b (drop (suc (prefix_len (is_other b) cs)) cs))
      → (if not t then 1 + prefix_len (is_other b) cs else 0) < suc (length cs)
      → (if t then [] ∷ words_at b cs else longer_first c (words_at b cs))
      ≡ take (if not t then 1 + prefix_len (is_other b) cs else 0) (c ∷ cs)
      ∷ words_at b (drop (suc (if not t then 1 + prefix_len (is_other b) cs else 0)) (c ∷ cs))
  first-by true ih h = refl
  first-by false ih h = rw (ih (omega arith)) (rw one-add refl)

-- A text without such an octet is its only word.
pub words_whole : (b : ℕ) (xs : List ℕ) → prefix_len (is_other b) xs ≡ length xs → words_at b xs ≡ xs ∷ []
words_whole b [] h = refl
words_whole b (c ∷ cs) h = whole-by b c cs (c == b) (words_whole b cs) h

-- What stands before the first such octet is the first word, and the others are those of what follows it.
pub words_first : (b : ℕ) (xs : List ℕ) → prefix_len (is_other b) xs < length xs
    → words_at b xs ≡ take (prefix_len (is_other b) xs) xs ∷ words_at b (drop (suc (prefix_len (is_other b) xs)) xs)
words_first b [] h = absurd (omega arith)
words_first b (c ∷ cs) h = first-by b c cs (c == b) (words_first b cs) h

-- The same, where the lengths are told.
pub words_cut : (b : ℕ) (xs first rest : List ℕ) (n : ℕ) → n ≡ prefix_len (is_other b) xs → n < length xs
    → first ≡ take n xs → rest ≡ drop (n + 1) xs
    → (words_at b xs ≡ first ∷ words_at b rest) × (length rest < length xs)
words_cut b xs first rest n is less f r = (
  words_first b xs (omega arith) ∙ (ap (λ k. take k xs ∷ words_at b (drop (suc k) xs)) (sym is)
      ∙ (ap (λ k. take n xs ∷ words_at b (drop k xs)) (sym (add-one n))
      ∙ (ap (λ l. l ∷ words_at b (drop (n + 1) xs)) (sym f) ∙ ap (λ l. first ∷ words_at b l) (sym r)))),
  omega (arith, ap length r, length-drop (n + 1) xs),
)

-- The first of words with an octet before it.
longer-some : (c : ℕ) (ws : List (List ℕ)) → (word : List ℕ) × (words : List (List ℕ)) × (longer_first c ws ≡ word ∷ words)
longer-some c [] = (c ∷ [], [], refl)
longer-some c (w ∷ ws) = (c ∷ w, ws, refl)

some-by : (t : Bool) (b c : ℕ) (cs : List ℕ) → (word : List ℕ) × (words : List (List ℕ))
    × ((if t then [] ∷ words_at b cs else longer_first c (words_at b cs)) ≡ word ∷ words)
some-by true b c cs = ([], words_at b cs, refl)
some-by false b c cs = longer-some c (words_at b cs)

-- There is always a word.
pub words_some : (b : ℕ) (xs : List ℕ) → (word : List ℕ) × (words : List (List ℕ)) × (words_at b xs ≡ word ∷ words)
words_some b [] = ([], [], refl)
words_some b (c ∷ cs) = some-by (c == b) b c cs
