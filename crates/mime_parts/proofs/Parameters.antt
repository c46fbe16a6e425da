-- Parameters that are read lexeme by lexeme, and looked up pair by pair.
use Rattle.std.proofs.Common.{◌≡◌, ℕ, ◌+◌, ◌<◌, ◌≤◌, List, [], ◌∷◌, length, drop, get_or, refl, sym, ap, ◌∙◌, arith}
use Rattle.std.proofs.lemmas.List.{drop_more}
use Rattle.mime_parts.specs.ContentTypes.{param}

-- Two texts at an index.
pub two_more : (xs : List (List ℕ)) (i : ℕ) (x y : List ℕ) → i + 1 < length xs → x ≡ get_or xs i x → y ≡ get_or xs (i + 1) y
    → drop i xs ≡ x ∷ y ∷ drop (i + 2) xs
two_more xs i x y h e f =
    let e2 : (i + 1) + 1 ≡ i + 2 = omega arith in
    drop_more xs i x (omega arith) ∙ ap (λ z. z ∷ drop (i + 1) xs) (sym e)
    ∙ ap (λ zs. x ∷ zs) (drop_more xs (i + 1) y h ∙ ap (λ z. z ∷ drop ((i + 1) + 1) xs) (sym f) ∙ ap (λ n. y ∷ drop n xs) e2)

-- A name at an index, and the value after it.
pub name_at : (xs : List (List ℕ)) (i : ℕ) (x : List ℕ) → i + 1 < length xs → x ≡ get_or xs i x → drop i xs ≡ x ∷ get_or xs (i + 1) [] ∷ drop (i + 2) xs
name_at xs i x h e =
    let e2 : (i + 1) + 1 ≡ i + 2 = omega arith in
    drop_more xs i x (omega arith) ∙ ap (λ z. z ∷ drop (i + 1) xs) (sym e)
    ∙ ap (λ zs. x ∷ zs) (drop_more xs (i + 1) [] h ∙ ap (λ n. get_or xs (i + 1) [] ∷ drop n xs) e2)

-- Fewer than two texts have no parameter.
pub param-none : (name : List ℕ) (xs : List (List ℕ)) → length xs ≤ 1 → param name xs ≡ []
param-none name [] h = refl
param-none name (x ∷ []) h = refl
param-none name (x ∷ y ∷ ys) h = absurd (omega arith)
