-- Runs of spaces, reduced to one space, byte by byte.
use Rattle.std.proofs.Common.{◌≡◌, ℕ, Bool, true, false, cond, eqb, ◌&&◌, List, [], ◌∷◌, ◌++◌, refl, sym, ap, ◌∙◌}
use Rattle.std.proofs.lemmas.Bool.{eqb-true}
use Rattle.mail_reader.specs.Stored.{all_of, without_end}
use Rattle.mail_reader.specs.Values.{space_for, unfolded}
use Rattle.mail_reader.specs.Content.{squeezed}
use Rattle.mail_reader.specs.Hashing.{waiting, given_at, waits_after}
use Rattle.mail_reader.proofs.Blanks.{unfolded-cons}

-- What bytes add. The flag says whether a space waits before them.
abbrev pub given_from : Bool → List ℕ → List ℕ
given_from spaced [] = []
given_from spaced (b ∷ bs) = given_at spaced b ++ given_from (waits_after spaced b) bs

-- The bytes don't end with a space.
abbrev pub NoEnd : List ℕ → Type 0
NoEnd xs = without_end 32 xs ≡ xs

NoEnd-tail : (x : ℕ) (xs : List ℕ) → NoEnd (x ∷ xs) → NoEnd xs
NoEnd-tail x xs h = step (eqb x 32 && all_of 32 xs) (without_end 32 xs) h
  where
    step : (t : Bool) (w : List ℕ) → cond t [] (x ∷ w) ≡ x ∷ xs → w ≡ xs
    step true w e = cc
    step false w e = cc

-- One byte, by what it is: `f` says that it is a line feed, and `s` that it becomes a space.
step : (f s : Bool) (c : ℕ) (spaced : Bool) (later : List ℕ) (given : Bool → List ℕ) → eqb c 32 ≡ s → NoEnd (waiting spaced ++ cond f later (c ∷ later))
    → ((next : Bool) → NoEnd (waiting next ++ later) → given next ≡ squeezed (waiting next ++ later))
    → cond f [] (cond s [] (waiting spaced ++ c ∷ [])) ++ given (cond f spaced s) ≡ squeezed (waiting spaced ++ cond f later (c ∷ later))
step true s c spaced later given e h ih = ih spaced h
step false true c true later given e h ih =
    let is : c ≡ 32 = eqb-true c 32 e in
    let tail : NoEnd (32 ∷ later) = ap (λ b. without_end 32 (b ∷ later)) (sym is) ∙ NoEnd-tail 32 (c ∷ later) h ∙ ap (λ b. b ∷ later) is in
    let one : squeezed (32 ∷ c ∷ later) ≡ squeezed (c ∷ later) = ap (λ t. cond t (squeezed (c ∷ later)) (32 ∷ squeezed (c ∷ later))) e in
    ih true tail ∙ ap (λ b. squeezed (b ∷ later)) (sym is) ∙ sym one
step false true c false later given e h ih =
    let is : c ≡ 32 = eqb-true c 32 e in
    ih true (ap (λ b. without_end 32 (b ∷ later)) (sym is) ∙ h ∙ ap (λ b. b ∷ later) is) ∙ ap (λ b. squeezed (b ∷ later)) (sym is)
step false false c true later given e h ih = rw e (ap (λ t. 32 ∷ c ∷ t) (ih false (NoEnd-tail c later (NoEnd-tail 32 (c ∷ later) h))))
step false false c false later given e h ih = rw e (ap (λ t. c ∷ t) (ih false (NoEnd-tail c later h)))

pub given_is : (bs : List ℕ) (spaced : Bool) → NoEnd (waiting spaced ++ unfolded bs) → given_from spaced bs ≡ squeezed (waiting spaced ++ unfolded bs)
given_is [] true h = h
given_is [] false h = refl
given_is (b ∷ bs) spaced h =
    step (eqb b 10) (eqb (space_for b) 32) (space_for b) spaced (unfolded bs) (λ next. given_from next bs) refl
    (ap (λ t. without_end 32 (waiting spaced ++ t)) (sym (unfolded-cons b bs)) ∙ h ∙ ap (λ t. waiting spaced ++ t) (unfolded-cons b bs))
    (λ next k. given_is bs next k)
    ∙ ap (λ t. squeezed (waiting spaced ++ t)) (sym (unfolded-cons b bs))
