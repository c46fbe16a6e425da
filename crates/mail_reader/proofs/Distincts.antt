-- Different ids, in the order in which each comes first.
use Rattle.std.proofs.Common.{◌≡◌, ℕ, ◌-◌, Bool, true, false, cond, ◌||◌, List, [], ◌∷◌, ◌++◌, Result, length, take, drop, refl, sym, ap, ◌∙◌, subst}
use Rattle.std.specs.Borrow.{Bor}
use Rattle.std.specs.BTreeSet.{BTreeSet, contains, Updates}
use Rattle.std.specs.Cmp.Lexicographic.{slice_cmp}
use Rattle.std.specs.Ordering.{nat_cmp}
use Rattle.std.specs.Prelude.{IfOk}
use Rattle.std.specs.List.{list_any}
use Rattle.std.specs.Str.{bytes_eq}
use Rattle.std.proofs.lemmas.List.{take_rest, drop-map, length-map, map-append}
use Rattle.std.proofs.lemmas.Map.Text.{is_eq-slice_cmp}
use Rattle.mail_reader.specs.References.{put_new, last, shown_all, HasSeen}

-- An id that is there already.
pub put_new-there : (ids : List (List ℕ)) (id : List ℕ) → list_any (λ seen. bytes_eq seen id) ids ≡ true → put_new ids id ≡ ids
put_new-there ids id h = rw h refl

-- An id that isn't there.
pub put_new-more : (ids : List (List ℕ)) (id : List ℕ) → list_any (λ seen. bytes_eq seen id) ids ≡ false → put_new ids id ≡ ids ++ id ∷ []
put_new-more ids id h = rw h refl

any_push : (p : List ℕ → Bool) (xs : List (List ℕ)) (y : List ℕ) → list_any p (xs ++ y ∷ []) ≡ cond (p y) true (list_any p xs)
any_push p [] y = base (p y)
  where
    base : (a : Bool) → (a || false) ≡ cond a true false
    base true = refl
    base false = refl
any_push p (x ∷ xs) y = ap (λ t. p x || t) (any_push p xs y) ∙ step (p x) (p y) (list_any p xs)
  where
    step : (a b c : Bool) → (a || cond b true c) ≡ cond b true (a || c)
    step true true c = refl
    step true false c = refl
    step false b c = refl

-- What is added to the set is appended to the list.
pub HasSeen-more : (ids : List (Bor (List ℕ))) (id : Bor (List ℕ)) (old new : BTreeSet (Bor (List ℕ))) → HasSeen ids old
    → Updates (λ (a b : Bor (List ℕ)). slice_cmp nat_cmp a.now b.now) old new id true → HasSeen (ids ++ id ∷ []) new
HasSeen-more ids id old new h u q =
    u.0 q ∙ ap (λ t. cond t true (contains (λ (a b : Bor (List ℕ)). slice_cmp nat_cmp a.now b.now) old q)) (is_eq-slice_cmp id.now q.now)
    ∙ ap (λ t. cond (bytes_eq id.now q.now) true t) (h q)
    ∙ sym (ap (list_any (λ s. bytes_eq s q.now)) (map-append (λ (slice : Bor (List ℕ)). slice.now) ids (id ∷ [])) ∙ any_push (λ s. bytes_eq s q.now) (shown_all ids) id.now)

-- The last elements of a list, by its slices.
pub last-shown : (ids : List (Bor (List ℕ))) (n : ℕ) → shown_all (take (length ids - (length ids - n)) (drop (length ids - n) ids)) ≡ last n (shown_all ids)
last-shown ids n =
    ap shown_all (take_rest ids (length ids - n)) ∙ sym (drop-map (λ (slice : Bor (List ℕ)). slice.now) (length ids - n) ids)
    ∙ ap (λ k. drop (k - n) (shown_all ids)) (sym (length-map ids (λ (slice : Bor (List ℕ)). slice.now)))

-- The value of a call that gives one.
pub same_ok : {E : Type 0} (r : Result (List (List ℕ)) E) (xs ys : List (List ℕ)) → xs ≡ ys → IfOk r (λ t. t ≡ xs) → IfOk r (λ t. t ≡ ys)
same_ok r xs ys e h = let P : List (List ℕ) → Type 0 = λ zs. IfOk r (λ t. t ≡ zs) in subst P e h
