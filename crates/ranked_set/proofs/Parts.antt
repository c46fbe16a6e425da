-- Lists in two sides around one item: what is at an index, one item more or less, and windows.
use Rattle.std.proofs.Common.{◌≡◌, ℕ, ◌+◌, ◌-◌, ◌<◌, zero, suc, List, [], ◌∷◌, ◌++◌, length, reverse, take, drop, refl, sym, ap, ◌∙◌, arith, append_assoc}
use Rattle.std.specs.List.{insert, remove}
use Rattle.std.proofs.lemmas.List.{reverse-append, length-reverse}
use Rattle.std.proofs.lemmas.List.Edits.{insert-append_right, remove-append_right}
use Rattle.ranked_set.specs.Windows.{seen_by, after}
use Rattle.ranked_set.specs.declared.window.Window.{Window}

-- One item more on the left or on the right.
pub insert-right : {X : Type 0} (xs : List X) (y : X) (ys : List X) (i : ℕ) (z : X) → length xs < i → insert (xs ++ y ∷ ys) i z ≡ xs ++ y ∷ insert ys (i - length xs - 1) z
insert-right xs y ys i z h = insert-append_right xs (y ∷ ys) (length xs) i z refl (omega arith) ∙ ap (λ t. xs ++ t) (step (i - length xs) (omega arith))
  where
    step : (n : ℕ) → 0 < n → insert (y ∷ ys) n z ≡ y ∷ insert ys (n - 1) z
    step zero k = absurd (omega arith)
    step (suc n) k = let e : suc n - 1 ≡ n = omega arith in rw e refl

-- One item less on the left, in the middle or on the right.
pub remove-middle : {X : Type 0} (xs : List X) (y : X) (ys : List X) (i : ℕ) → i ≡ length xs → remove (xs ++ y ∷ ys) i ≡ xs ++ ys
remove-middle xs y ys i e =
    remove-append_right xs (y ∷ ys) (length xs) i refl (omega arith) ∙ ap (λ n. xs ++ remove (y ∷ ys) n) (let none : i - length xs ≡ 0 = omega arith in none)

pub remove-right : {X : Type 0} (xs : List X) (y : X) (ys : List X) (i : ℕ) → length xs < i → remove (xs ++ y ∷ ys) i ≡ xs ++ y ∷ remove ys (i - length xs - 1)
remove-right xs y ys i h = remove-append_right xs (y ∷ ys) (length xs) i refl (omega arith) ∙ ap (λ t. xs ++ t) (step (i - length xs) (omega arith))
  where
    step : (n : ℕ) → 0 < n → remove (y ∷ ys) n ≡ y ∷ remove ys (n - 1)
    step zero k = absurd (omega arith)
    step (suc n) k = let e : suc n - 1 ≡ n = omega arith in rw e refl

-- A window on two lists, one after another.
drop-two : {X : Type 0} (s : ℕ) (xs ys : List X) → drop s (xs ++ ys) ≡ drop s xs ++ drop (s - length xs) ys
drop-two zero xs ys = let e : 0 - length xs ≡ 0 = omega arith in rw e refl
drop-two (suc s) [] ys = let e : suc s - 0 ≡ suc s = omega arith in rw e refl
drop-two (suc s) (x ∷ xs) ys = let e : suc s - suc (length xs) ≡ s - length xs = omega arith in rw e (drop-two s xs ys)

take-two : {X : Type 0} (c : ℕ) (xs ys : List X) → take c (xs ++ ys) ≡ take c xs ++ take (c - length xs) ys
take-two zero xs ys = let e : 0 - length xs ≡ 0 = omega arith in rw e refl
take-two (suc c) [] ys = let e : suc c - 0 ≡ suc c = omega arith in rw e refl
take-two (suc c) (x ∷ xs) ys = let e : suc c - suc (length xs) ≡ c - length xs = omega arith in rw e (ap (λ t. x ∷ t) (take-two c xs ys))

length-dropped : {X : Type 0} (s : ℕ) (xs : List X) → length (drop s xs) ≡ length xs - s
length-dropped zero xs = omega arith
length-dropped (suc s) [] = omega arith
length-dropped (suc s) (x ∷ xs) = omega (arith, length-dropped s xs)

pub seen-two : {X : Type 0} (w : Window) (xs ys : List X) → seen_by w (xs ++ ys) ≡ seen_by w xs ++ seen_by (after w (length xs)) ys
seen-two w xs ys =
    ap (take w.count) (drop-two w.skip xs ys) ∙ take-two w.count (drop w.skip xs) (drop (w.skip - length xs) ys)
    ∙ rw (length-dropped w.skip xs) refl

-- The items of two sides and one between, from the end on.
reverse-sides : {X : Type 0} (xs : List X) (y : X) (ys : List X) → reverse (xs ++ y ∷ ys) ≡ reverse ys ++ (y ∷ [] ++ reverse xs)
reverse-sides xs y ys =
    reverse-append xs (y ∷ ys) ∙ ap (λ t. t ++ reverse xs) (reverse-append (y ∷ []) ys) ∙ append_assoc (reverse ys) (y ∷ []) (reverse xs)

-- A window on a left side, an item and a right side, from the end on.
pub seen-sides : {X : Type 0} (w : Window) (xs : List X) (y : X) (ys : List X)
    → seen_by w (reverse (xs ++ y ∷ ys)) ≡ seen_by w (reverse ys) ++ (seen_by (after w (length ys)) (y ∷ []) ++ seen_by (after (after w (length ys)) 1) (reverse xs))
seen-sides w xs y ys =
    ap (seen_by w) (reverse-sides xs y ys) ∙ seen-two w (reverse ys) (y ∷ [] ++ reverse xs)
    ∙ rw (length-reverse ys) (ap (λ t. seen_by w (reverse ys) ++ t) (seen-two (after w (length ys)) (y ∷ []) (reverse xs)))

-- What was appended on the right, in the middle and on the left is what a window shows.
pub seen-pushed : {X : Type 0} (w here next : Window) (xs : List X) (y : X) (ys old one two new : List X) → here ≡ after w (length ys) → next ≡ after here 1
    → one ≡ old ++ seen_by w (reverse ys) → two ≡ one ++ seen_by here (y ∷ []) → new ≡ two ++ seen_by next (reverse xs) → new ≡ old ++ seen_by w (reverse (xs ++ y ∷ ys))
seen-pushed w here next xs y ys old one two new h n a b c =
    let left = seen_by w (reverse ys) in
    let middle = seen_by (after w (length ys)) (y ∷ []) in
    let right = seen_by (after (after w (length ys)) 1) (reverse xs) in
    let third : new ≡ two ++ right = c ∙ rw (n, h) refl in
    let second : two ≡ one ++ middle = b ∙ rw h refl in
    third ∙ ap (λ t. t ++ right) (second ∙ ap (λ t. t ++ middle) a) ∙ append_assoc (old ++ left) middle right ∙ append_assoc old left (middle ++ right)
    ∙ ap (λ t. old ++ t) (sym (seen-sides w xs y ys))
