-- Bytes as lines: one more line, and the lines of clean bytes.
use Rattle.std.proofs.Common.{◌≡◌, ℕ, ◌<◌, Bool, true, false, cond, eqb, ◌&&◌, List, [], ◌∷◌, ◌++◌, length, refl, ap, ◌∙◌, arith}
use Rattle.std.specs.List.{onto_first, concat}
use Rattle.mail_reader.specs.Lines.{lines_of}
use Rattle.mail_reader.specs.Stored.{all_of, content_of, ended, ends_line, without_returns, clean_lines}
use Rattle.mail_reader.proofs.Trims.{NoFeed, all_of-none_left, NoByte-without_end}

-- Carriage returns up to a line feed.
ends_line-at : (xs rest : List ℕ) → NoFeed xs → ends_line (xs ++ 10 ∷ rest) ≡ all_of 13 xs
ends_line-at [] rest h = refl
ends_line-at (x ∷ xs) rest h = rw h.0 (ap (λ t. eqb x 13 && t) (ends_line-at xs rest h.1))

-- Runs of carriage returns before a line feed.
pub without_returns-at : (xs rest : List ℕ) → NoFeed xs → without_returns (xs ++ 10 ∷ rest) ≡ content_of xs ++ 10 ∷ without_returns rest
without_returns-at [] rest h = refl
without_returns-at (x ∷ xs) rest h =
    rw (ends_line-at xs rest h.1) (step (eqb x 13) (all_of 13 xs) x _ _ _ (without_returns-at xs rest h.1) (all_of-none_left 13 xs))
  where
    step : (t a : Bool) (b : ℕ) (w c r : List ℕ) → w ≡ c ++ r → (a ≡ true → c ≡ []) → cond (t && a) w (b ∷ w) ≡ cond (t && a) [] (b ∷ c) ++ r
    step true true b w c r e k = e ∙ ap (λ s. s ++ r) (k refl)
    step true false b w c r e k = ap (λ s. b ∷ s) e
    step false a b w c r e k = ap (λ s. b ∷ s) e

-- One more line.
pub lines_of-at : (xs rest : List ℕ) → NoFeed xs → lines_of (xs ++ 10 ∷ rest) ≡ (xs ++ 10 ∷ []) ∷ lines_of rest
lines_of-at [] rest h = refl
lines_of-at (x ∷ xs) rest h = rw h.0 (ap (onto_first x) (lines_of-at xs rest h.1))

-- Bytes without a line feed are one line.
pub lines_of-none : (xs : List ℕ) → NoFeed xs → 0 < length xs → lines_of xs ≡ xs ∷ []
lines_of-none [] h l = absurd (omega arith)
lines_of-none (x ∷ []) h l = rw h.0 refl
lines_of-none (x ∷ y ∷ ys) h l = rw h.0 (ap (onto_first x) (lines_of-none (y ∷ ys) h.1 (omega arith)))

-- A line feed that is already there.
pub ended-at : (xs rest : List ℕ) → ended (xs ++ 10 ∷ rest) ≡ xs ++ 10 ∷ ended rest
ended-at [] [] = refl
ended-at [] (r ∷ rs) = refl
ended-at (x ∷ []) rest = ap (λ t. x ∷ t) (ended-at [] rest)
ended-at (x ∷ y ∷ ys) rest = ap (λ t. x ∷ t) (ended-at (y ∷ ys) rest)

-- A line feed that is added.
pub ended-last : (xs : List ℕ) → NoFeed xs → 0 < length xs → ended xs ≡ xs ++ 10 ∷ []
ended-last [] h l = absurd (omega arith)
ended-last (x ∷ []) h l = rw h.0 refl
ended-last (x ∷ y ∷ ys) h l = ap (λ t. x ∷ t) (ended-last (y ∷ ys) h.1 (omega arith))

-- No bytes have no lines.
pub clean_lines-none : clean_lines [] ≡ []
unfolding clean_lines
clean_lines-none = refl

-- One more clean line.
pub clean_lines-at : (xs rest : List ℕ) → NoFeed xs → clean_lines (xs ++ 10 ∷ rest) ≡ (content_of xs ++ 10 ∷ []) ∷ clean_lines rest
unfolding clean_lines
clean_lines-at xs rest h =
    ap (λ t. lines_of (without_returns t)) (ended-at xs rest) ∙ ap lines_of (without_returns-at xs (ended rest) h)
    ∙ lines_of-at (content_of xs) (without_returns (ended rest)) (NoByte-without_end 10 13 xs h)

-- The last line, without its line feed.
pub clean_lines-last : (xs : List ℕ) → NoFeed xs → 0 < length xs → clean_lines xs ≡ (content_of xs ++ 10 ∷ []) ∷ []
unfolding clean_lines
clean_lines-last xs h l =
    ap (λ t. lines_of (without_returns t)) (ended-last xs h l) ∙ ap lines_of (without_returns-at xs [] h)
    ∙ lines_of-at (content_of xs) [] (NoByte-without_end 10 13 xs h)

-- The lines of bytes, joined, are the bytes.
pub concat-lines_of : (xs : List ℕ) → concat (lines_of xs) ≡ xs
concat-lines_of [] = refl
concat-lines_of (x ∷ xs) = step (eqb x 10) x (lines_of xs) xs (concat-lines_of xs)
  where
    joined : (b : ℕ) (ls : List (List ℕ)) → concat (onto_first b ls) ≡ b ∷ concat ls
    joined b [] = refl
    joined b (l ∷ ls) = refl

    step : (t : Bool) (b : ℕ) (ls : List (List ℕ)) (ys : List ℕ) → concat ls ≡ ys → concat (cond t ((b ∷ []) ∷ ls) (onto_first b ls)) ≡ b ∷ ys
    step true b ls ys e = ap (λ t. b ∷ t) e
    step false b ls ys e = joined b ls ∙ ap (λ t. b ∷ t) e
