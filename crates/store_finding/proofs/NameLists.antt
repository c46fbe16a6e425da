-- There is one list of all names, and each call tells the name at an index of it.
use Rattle.std.specs.Prelude.{◌≡◌, ◌⊎◌, ◌↔◌, ℕ, ◌+◌, Option, Some, None, IsSome, List, [], ◌∷◌, ◌++◌, take, slice_get, refl}
use Rattle.std.specs.List.{Contains}
use Rattle.std.specs.List.Sorted.{IsStrictlySortedBy}
use Rattle.std.specs.Ordering.{ordering_reverse}
use Rattle.std.specs.declared.cmp.Ordering.TheVariants.{Less, Greater}
use Rattle.std.proofs.Common.{◌∙◌, ap, sym, subst, inl, inr, arith}
use Rattle.std.proofs.lemmas.List.{take_more}
use Rattle.std.proofs.lemmas.List.Elements.{All-contains, Contains-append_right}
use Rattle.std.proofs.lemmas.Map.Keys.{sorted_tail}
use Rattle.std.proofs.lemmas.Map.Made.{Contains-tail}
use Rattle.std.proofs.lemmas.Map.Views.{All-after_first}
use Rattle.std.proofs.lemmas.Option.{slice_get_within, get_or_from_slice_get}
use Rattle.disk_model.specs.declared.name.FileName.{FileName}
use Rattle.disk_model.specs.Name.{name_cmp}
use Rattle.disk_model.specs.Images.{names_total, same_or_other}
use Rattle.disk_model.specs.Disk.{Content, Files, MaySurvive, Image, IsNameAt, Kept, BothTold, Unchanged, WhereTold}
use Rattle.disk_model.specs.Tells.{told_then}
use Rattle.store_finding.specs.Listing.{AreAllNames}

-- Of two names only one is below the other.
below_once : (a b : FileName) → name_cmp a b ≡ Less → name_cmp b a ≡ Less → ⊥
below_once a b first second =
    let both : Less ≡ Greater = sym first ∙ (names_total.antisymm a b ∙ ap ordering_reverse second) in
    cc

-- The first item is in the list.
first_in : (x : FileName) (xs : List FileName) → Contains (x ∷ xs) x
first_in x xs = (0, omega arith, refl)

-- The empty list has no item.
none_in : (q : FileName) → Contains [] q → ⊥
none_in q among = absurd (omega (arith, among.1))

-- A name is in a list or not.
pub contains_or_not : (xs : List FileName) (q : FileName) → Contains xs q ⊎ (Contains xs q → ⊥)
contains_or_not [] q = inr (none_in q)
contains_or_not (x ∷ xs) q = elim (same_or_other q x) [
  | inl is ↦ inl (subst (λ (n : FileName). Contains (x ∷ xs) n) is (first_in x xs))
  | inr apart ↦ elim (contains_or_not xs q) [
    | inl among ↦ inl (Contains-append_right (x ∷ []) xs q among)
    | inr out ↦ inr (λ among. out (Contains-tail x xs q apart among))
  ]
]

-- Every item after the first is above it.
above_first : (x : FileName) (xs : List FileName) (q : FileName) → IsStrictlySortedBy name_cmp (x ∷ xs) → Contains xs q → name_cmp x q ≡ Less
above_first x xs q sorted among = All-contains (λ (y : FileName). name_cmp x y ≡ Less) xs q (All-after_first name_cmp x xs sorted) among

-- The rests of two such lists have the same names.
same_rest : (x y : FileName) (xs ys : List FileName) (q : FileName) → IsStrictlySortedBy name_cmp (x ∷ xs) → x ≡ y → Contains (y ∷ ys) q → Contains xs q → Contains ys q
same_rest x y xs ys q sorted same has among =
    Contains-tail y ys q (λ is. let itself = subst (λ (z : FileName). name_cmp x z ≡ Less) (sym (same ∙ is)) (above_first x xs q sorted among) in below_once x x itself itself) has

-- Two lists of the same names in order are equal.
same_names : (xs ys : List FileName) → IsStrictlySortedBy name_cmp xs → IsStrictlySortedBy name_cmp ys → ((q : FileName) → Contains xs q → Contains ys q) → ((q : FileName) → Contains ys q → Contains xs q) → xs ≡ ys
same_names [] [] first second left right = refl
same_names [] (y ∷ ys) first second left right = absurd (none_in y (right y (first_in y ys)))
same_names (x ∷ xs) [] first second left right = absurd (none_in x (left x (first_in x xs)))
same_names (x ∷ xs) (y ∷ ys) first second left right = elim (same_or_other y x) [
  | inl same ↦
      (let rest = same_names xs ys (sorted_tail name_cmp x xs first) (sorted_tail name_cmp y ys second)
      (λ q among. same_rest x y xs ys q first same (left q (Contains-append_right (x ∷ []) xs q among)) among)
      (λ q among. same_rest y x ys xs q second (sym same) (right q (Contains-append_right (y ∷ []) ys q among)) among) in
      λ i. same i ∷ rest i)
  | inr apart ↦
      absurd (below_once x y (above_first x xs y first (Contains-tail x xs y apart (right y (first_in y ys))))
      (above_first y ys x second (Contains-tail y ys x (λ is. apart (sym is)) (left x (first_in x xs)))))
]

-- There is only one list of all names.
all_names_one : (xs ys : List FileName) (k : Content) → AreAllNames xs k → AreAllNames ys k → xs ≡ ys
all_names_one xs ys k first second = same_names xs ys first.in_order second.in_order (λ q among. (second.all q).0 ((first.all q).1 among)) (λ q among. (first.all q).0 ((second.all q).1 among))

-- The first i of all names.
abbrev pub AreFirstNames : List FileName → ℕ → Content → Type 0
AreFirstNames names i k = (all : List FileName) → AreAllNames all k → names ≡ take i all

-- One more name.
one_more : (names : List FileName) (i : ℕ) (name : FileName) (k m : Content) → Unchanged k m → AreFirstNames names i k → IsNameAt i (Some name) m → AreFirstNames (names ++ name ∷ []) (i + 1) k
one_more names i name k m same are at_place all listed =
    let told : AreAllNames at_place.names k = record { in_order = at_place.in_order; all = λ other. subst (λ (kept : Kept). IsSome kept.seen ↔ Contains at_place.names other) (same other) (at_place.all other) } in
    let here : slice_get all i ≡ Some name = ap (λ (l : List FileName). slice_get l i) (all_names_one all at_place.names k listed told) ∙ sym at_place.«at» in
    let next = take_more all i name (slice_get_within all i name here) in
    ap (λ (l : List FileName). l ++ name ∷ []) (are all listed) ∙ sym (next ∙ ap (λ (n : FileName). take i all ++ n ∷ []) (get_or_from_slice_get all i name name here))

-- One more name, if the disk tells its content.
pub first_more : (names : List FileName) (i : ℕ) (name : FileName) (k m : Option Content) → BothTold Unchanged k m → WhereTold (AreFirstNames names i) k → WhereTold (IsNameAt i (Some name)) m → WhereTold (AreFirstNames (names ++ name ∷ []) (i + 1)) k
first_more names i name None None same are at_place = tt
first_more names i name None (Some m) same are at_place = absurd same
first_more names i name (Some k) None same are at_place = absurd same
first_more names i name (Some k) (Some m) same are at_place = one_more names i name k m same are at_place

-- What two calls leave unchanged is unchanged after both.
pub unchanged_more : (k m o : Option Content) → BothTold Unchanged k m → BothTold Unchanged m o → BothTold Unchanged k o
unchanged_more k m o = told_then Unchanged Unchanged Unchanged k m o (λ a b c is told first second name. second name ∙ first name)

-- If nothing changes, a crash leaves what it left before.
pub unchanged_image : (k m : Option Content) (image : Files) → BothTold Unchanged k m → Image m image → Image k image
unchanged_image None None image same left = tt
unchanged_image None (Some m) image same left = tt
unchanged_image (Some k) None image same left = absurd same
unchanged_image (Some k) (Some m) image same left = λ name. let P : Kept → Type 0 = λ kept. MaySurvive kept.sure (image name) in subst P (same name) (left name)
