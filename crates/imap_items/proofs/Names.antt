-- Sets of names.
use Rattle.std.proofs.Common.{◌≡◌, ℕ, ◌+◌, ◌<◌, Bool, true, false, cond, ◌||◌, List, [], ◌∷◌, ◌++◌, length, take, get_or, refl, sym, ap, ◌∙◌}
use Rattle.std.specs.BTreeSet.{BTreeSet, contains, Updates}
use Rattle.std.specs.Cmp.Lexicographic.{slice_cmp}
use Rattle.std.specs.Global.{Vec}
use Rattle.std.specs.List.{list_any}
use Rattle.std.specs.Ordering.{nat_cmp}
use Rattle.std.specs.Str.{bytes_eq, str_to_ascii_lowercase}
use Rattle.std.proofs.lemmas.List.{take_more}
use Rattle.std.proofs.lemmas.Map.Text.{is_eq-slice_cmp}
use Rattle.imap_items.specs.NameSets.{IsNameSet}

any_push : (p : List ℕ → Bool) (xs : List (List ℕ)) (y : List ℕ) → list_any p (xs ++ y ∷ []) ≡ cond (p y) true (list_any p xs)
any_push p [] y = base (p y)
  where
    base : (a : Bool) → (a || false) ≡ cond a true false
    base true = refl
    base false = refl
any_push p (x ∷ xs) y = ap (λ t. p x || t) (any_push p xs y) ∙ step (p x) (p y) (list_any p xs)
  where
    step : (a b c : Bool) → (a || cond b true c) ≡ cond b true (a || c)
    step true true c = refl
    step true false c = refl
    step false b c = refl

-- One name more.
pub names-more : (names : List (List ℕ)) (i : ℕ) (d : List ℕ) (lower : Vec ℕ) (old new : BTreeSet (Vec ℕ)) → i < length names
    → lower.items ≡ str_to_ascii_lowercase (get_or names i d) → IsNameSet (take i names) old
    → Updates (λ (a b : Vec ℕ). slice_cmp nat_cmp a.items b.items) old new lower true → IsNameSet (take (i + 1) names) new
names-more names i d lower old new within is h u q =
    let name = get_or names i d in
    let test = λ (n : List ℕ). bytes_eq (str_to_ascii_lowercase n) q.items in
    let grown : list_any test (take (i + 1) names) ≡ cond (test name) true (list_any test (take i names)) = ap (list_any test) (take_more names i d within) ∙ any_push test (take i names) name in
    u.0 q ∙ ap (λ t. cond t true (contains (λ (a b : Vec ℕ). slice_cmp nat_cmp a.items b.items) old q)) (is_eq-slice_cmp lower.items q.items)
    ∙ ap (λ t. cond t true (contains (λ (a b : Vec ℕ). slice_cmp nat_cmp a.items b.items) old q)) (ap (λ xs. bytes_eq xs q.items) is)
    ∙ ap (λ t. cond (test name) true t) (h q) ∙ sym grown
