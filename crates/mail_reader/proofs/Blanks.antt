-- The blank bytes at the ends of a value.
use Rattle.std.proofs.Common.{◌≡◌, ℕ, Bool, true, false, cond, eqb, not, ◌||◌, List, [], ◌∷◌, ◌++◌, map, refl, sym, ap, ◌∙◌}
use Rattle.std.specs.List.{filter}
use Rattle.std.proofs.lemmas.Bool.{eqb-true, or_parts}
use Rattle.std.proofs.lemmas.List.{append-nil}
use Rattle.mail_reader.specs.Stored.{without_end}
use Rattle.mail_reader.specs.Values.{space_for, is_no_feed, unfolded}
use Rattle.mail_reader.proofs.Trims.{without_end-push, without_end-push_other}

-- The byte becomes nothing or a space.
abbrev pub is_blank : ℕ → Bool
is_blank b = eqb b 10 || eqb (space_for b) 32

-- One more byte at the front.
abbrev pub unfolded_by : Bool → ℕ → List ℕ → List ℕ
unfolded_by feed b later = cond feed later (space_for b ∷ later)

pub unfolded-cons : (b : ℕ) (bs : List ℕ) → unfolded (b ∷ bs) ≡ unfolded_by (eqb b 10) b (unfolded bs)
unfolded-cons b bs = step (eqb b 10) bs
  where
    step : (t : Bool) (bs : List ℕ) → map space_for (cond (not t) (b ∷ filter is_no_feed bs) (filter is_no_feed bs)) ≡ unfolded_by t b (unfolded bs)
    step true bs = refl
    step false bs = refl

pub unfolded-append : (xs ys : List ℕ) → unfolded (xs ++ ys) ≡ unfolded xs ++ unfolded ys
unfolded-append [] ys = refl
unfolded-append (x ∷ xs) ys =
    unfolded-cons x (xs ++ ys) ∙ step (eqb x 10) (unfolded-append xs ys) ∙ ap (λ t. t ++ unfolded ys) (sym (unfolded-cons x xs))
  where
    step : (t : Bool) → unfolded (xs ++ ys) ≡ unfolded xs ++ unfolded ys → unfolded_by t x (unfolded (xs ++ ys)) ≡ unfolded_by t x (unfolded xs) ++ unfolded ys
    step true e = e
    step false e = ap (λ t. space_for x ∷ t) e

-- A blank byte at the end is removed.
pub end_blank : (xs : List ℕ) (y : ℕ) → is_blank y ≡ true → without_end 32 (unfolded (xs ++ y ∷ [])) ≡ without_end 32 (unfolded xs)
end_blank xs y h =
    ap (without_end 32) (unfolded-append xs (y ∷ []) ∙ ap (λ t. unfolded xs ++ t) (unfolded-cons y [])) ∙ step (eqb y 10) h
  where
    step : (t : Bool) → (t || eqb (space_for y) 32) ≡ true → without_end 32 (unfolded xs ++ unfolded_by t y []) ≡ without_end 32 (unfolded xs)
    step true h = ap (without_end 32) (append-nil (unfolded xs))
    step false h = ap (λ b. without_end 32 (unfolded xs ++ b ∷ [])) (eqb-true (space_for y) 32 h) ∙ without_end-push 32 (unfolded xs)

-- Any other byte stays.
pub end_other : (xs : List ℕ) (y : ℕ) → is_blank y ≡ false → without_end 32 (unfolded (xs ++ y ∷ [])) ≡ unfolded (xs ++ y ∷ [])
end_other xs y h =
    let both = or_parts (eqb y 10) (eqb (space_for y) 32) h in
    let is : unfolded (xs ++ y ∷ []) ≡ unfolded xs ++ space_for y ∷ [] =
    unfolded-append xs (y ∷ []) ∙ ap (λ t. unfolded xs ++ t) (unfolded-cons y [] ∙ ap (λ t. unfolded_by t y []) both.0) in
    ap (without_end 32) is ∙ without_end-push_other 32 (unfolded xs) (space_for y) both.1 ∙ sym is
