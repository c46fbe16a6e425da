-- The first run of a text, and the runs after it.
use Rattle.std.proofs.Common.{◌≡◌, ℕ, suc, ◌+◌, ◌<◌, Bool, true, false, not, cond, List, [], ◌∷◌, take, drop, refl, sym, ap, ◌∙◌, arith}
use Rattle.std.specs.List.{onto_first, prefix_len}
use Rattle.text_words.specs.Runs.{fails, begins, runs}

one-more : (n : ℕ) → 1 + n ≡ suc n
one-more n = omega arith

module _ (test : ℕ → Bool) where
  -- The text from its first byte that passes.
  abbrev pub from_first : List ℕ → List ℕ
  from_first text = drop (prefix_len (fails test) text) text

  -- Bytes before it make no run.
  runs-from_first : (text : List ℕ) → runs test (from_first text) ≡ runs test text
  runs-from_first [] = refl
  runs-from_first (b ∷ bs) = go (test b) refl (runs-from_first bs)
    where
      go : (w : Bool) → test b ≡ w → runs test (from_first bs) ≡ runs test bs → runs test (drop (cond (not w) (1 + prefix_len (fails test) bs) 0) (b ∷ bs)) ≡ cond w (cond (begins test bs) (onto_first b (runs test bs)) ((b ∷ []) ∷ runs test bs)) (runs test bs)
      go true e ih = rw e refl
      go false e ih = rw (one-more (prefix_len (fails test) bs)) ih

  -- A run begins there, or nothing is left.
  begins-from_first : (text : List ℕ) → begins test (from_first text) ≡ false → from_first text ≡ []
  begins-from_first [] h = refl
  begins-from_first (b ∷ bs) h = go (test b) refl h (begins-from_first bs)
    where
      go : (w : Bool) → test b ≡ w → begins test (drop (cond (not w) (1 + prefix_len (fails test) bs) 0) (b ∷ bs)) ≡ false → (begins test (from_first bs) ≡ false → from_first bs ≡ []) → drop (cond (not w) (1 + prefix_len (fails test) bs) 0) (b ∷ bs) ≡ []
      go true e k ih = let back : true ≡ false = rw e at k in cc
      go false e k ih = rw (one-more (prefix_len (fails test) bs)) (ih (rw (one-more (prefix_len (fails test) bs)) at k))

  -- A text that doesn't start with a byte that passes has no run at its front.
  no_front : (text : List ℕ) → begins test text ≡ false → prefix_len test text ≡ 0
  no_front [] h = refl
  no_front (b ∷ bs) h = rw h refl

  begins-none : (text : List ℕ) → prefix_len test text ≡ 0 → begins test text ≡ false
  begins-none [] h = refl
  begins-none (b ∷ bs) h = go (test b) h
    where
      go : (w : Bool) → cond w (1 + prefix_len test bs) 0 ≡ 0 → w ≡ false
      go true k = absurd (omega arith)
      go false k = refl

  -- The bytes at the front that pass are the first run.
  runs-front : (text : List ℕ) → begins test text ≡ true → runs test text ≡ take (prefix_len test text) text ∷ runs test (drop (prefix_len test text) text)
  runs-front [] h = cc
  runs-front (b ∷ bs) h = go (test b) h (begins test bs) refl (runs-front bs)
    where
      go : (w : Bool) → w ≡ true → (more : Bool) → begins test bs ≡ more → (begins test bs ≡ true → runs test bs ≡ take (prefix_len test bs) bs ∷ runs test (drop (prefix_len test bs) bs)) → cond w (cond more (onto_first b (runs test bs)) ((b ∷ []) ∷ runs test bs)) (runs test bs) ≡ take (cond w (1 + prefix_len test bs) 0) (b ∷ bs) ∷ runs test (drop (cond w (1 + prefix_len test bs) 0) (b ∷ bs))
      go false k more m ih = cc
      go true k true m ih = rw (one-more (prefix_len test bs), ih m) refl
      go true k false m ih = rw (no_front bs m) refl

  -- A text whose bytes all fail has no runs.
  pub runs-none : (text : List ℕ) → prefix_len test (from_first text) ≡ 0 → runs test text ≡ []
  runs-none text h = sym (runs-from_first text) ∙ ap (runs test) (begins-from_first text (begins-none (from_first text) h))

  -- The first run, and the runs after it.
  pub runs-first : (text : List ℕ) → 0 < prefix_len test (from_first text) → let body = from_first text in runs test text ≡ take (prefix_len test body) body ∷ runs test (drop (prefix_len test body) body)
  runs-first text h = sym (runs-from_first text) ∙ runs-front (from_first text) (go (begins test (from_first text)) refl)
    where
      go : (w : Bool) → begins test (from_first text) ≡ w → w ≡ true
      go true e = refl
      go false e = absurd (let none = no_front (from_first text) e in omega arith)
