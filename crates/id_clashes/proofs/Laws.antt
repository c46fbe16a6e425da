-- No text clashes exactly where texts with one new id have one old id.
use Rattle.std.proofs.Common.{◌≡◌, Bool, true, false, not, ◌&&◌, ◌||◌, List, [], ◌∷◌, ◌++◌, Some, None, refl, sym, ◌∙◌, ap, if◌then◌else◌}
use Rattle.std.specs.List.{AllByRecursion, list_any}
use Rattle.std.proofs.lemmas.List.Folds.{list_any-append}
use Rattle.arch_base.specs.Ids.{id_eq}
use Rattle.arch_base.proofs.IdOrder.{id_eq-Decides}
use Rattle.id_clashes.specs.declared.clashes.TwoIds.{TwoIds}
use Rattle.id_clashes.specs.Clashes.{NoClashAgrees, OldIdsAgree, clashes, first_clash_of}

-- A text doesn't clash with another one exactly where they agree.
apart_agrees : (e f : TwoIds) → clashes e f ≡ false → e.new ≡ f.new → e.old ≡ f.old
apart_agrees e f none same = (id_eq-Decides e.old f.old).0 (by (id_eq e.new f.new) (id_eq e.old f.old) ((id_eq-Decides e.new f.new).1 same) none) where
  by : (t u : Bool) → t ≡ true → (t && not u) ≡ false → u ≡ true
  by t true is apart = refl
  by true false is apart = absurd (let wrong : true ≡ false = apart in cc)
  by false false is apart = absurd (let wrong : false ≡ true = is in cc)

agrees_apart : (e f : TwoIds) → (e.new ≡ f.new → e.old ≡ f.old) → clashes e f ≡ false
agrees_apart e f agree = by (id_eq e.new f.new) refl where
  by : (t : Bool) → id_eq e.new f.new ≡ t → (t && not (id_eq e.old f.old)) ≡ false
  by false is = refl
  by true is = ap not ((id_eq-Decides e.old f.old).1 (agree ((id_eq-Decides e.new f.new).0 is)))

-- None of these texts clashes with one of those.
abbrev pub ApartFrom : List TwoIds → List TwoIds → Type 0
ApartFrom before es = AllByRecursion (λ (f : TwoIds). list_any (clashes f) before ≡ false) es

left_false : (t u : Bool) → (t || u) ≡ false → t ≡ false
left_false false u is = refl
left_false true u is = absurd (let wrong : true ≡ false = is in cc)

right_false : (t u : Bool) → (t || (u || false)) ≡ false → u ≡ false
right_false t false is = refl
right_false false true is = absurd (let wrong : true ≡ false = is in cc)
right_false true true is = absurd (let wrong : true ≡ false = is in cc)

both_false : (t u : Bool) → t ≡ false → u ≡ false → (t || (u || false)) ≡ false
both_false false false a b = refl
both_false true u a b = absurd (let wrong : true ≡ false = a in cc)
both_false false true a b = absurd (let wrong : true ≡ false = b in cc)

module _ (before : List TwoIds) (e : TwoIds) where
  more_is : (f : TwoIds) → list_any (clashes f) (before ++ e ∷ []) ≡ (list_any (clashes f) before || (clashes f e || false))
  more_is f = list_any-append (clashes f) before (e ∷ [])

  fewer : (es : List TwoIds) → ApartFrom (before ++ e ∷ []) es → ApartFrom before es
  fewer [] all = tt
  fewer (f ∷ fs) all = (left_false (list_any (clashes f) before) (clashes f e || false) (sym (more_is f) ∙ all.0), fewer fs all.1)

  last : (es : List TwoIds) → ApartFrom (before ++ e ∷ []) es → AllByRecursion (λ (f : TwoIds). f.new ≡ e.new → f.old ≡ e.old) es
  last [] all = tt
  last (f ∷ fs) all = (apart_agrees f e (right_false (list_any (clashes f) before) (clashes f e) (sym (more_is f) ∙ all.0)), last fs all.1)

  more : (es : List TwoIds) → ApartFrom before es → AllByRecursion (λ (f : TwoIds). f.new ≡ e.new → f.old ≡ e.old) es → ApartFrom (before ++ e ∷ []) es
  more [] all agree = tt
  more (f ∷ fs) all agree = (more_is f ∙ both_false (list_any (clashes f) before) (clashes f e) all.0 (agrees_apart f e agree.0), more fs all.1 agree.1)

forward_step : (before : List TwoIds) (e : TwoIds) (es : List TwoIds) (t : Bool) → list_any (clashes e) before ≡ t → (first_clash_of (before ++ e ∷ []) es ≡ None → ApartFrom (before ++ e ∷ []) es × OldIdsAgree es)
    → (if t then Some e.number else first_clash_of (before ++ e ∷ []) es) ≡ None → ApartFrom before (e ∷ es) × OldIdsAgree (e ∷ es)
forward_step before e es true is rest wrong = absurd (let no : Some e.number ≡ None = wrong in cc)
forward_step before e es false is rest none =
    let so = rest none in
    ((is, fewer before e es so.0), (last before e es so.0, so.1))

forward : (es before : List TwoIds) → first_clash_of before es ≡ None → ApartFrom before es × OldIdsAgree es
forward [] before none = (tt, tt)
forward (e ∷ es) before none = forward_step before e es (list_any (clashes e) before) refl (forward es (before ++ e ∷ [])) none

backward : (es before : List TwoIds) → ApartFrom before es → OldIdsAgree es → first_clash_of before es ≡ None
backward [] before apart agree = refl
backward (e ∷ es) before apart agree =
    ap (λ (t : Bool). if t then Some e.number else first_clash_of (before ++ e ∷ []) es) apart.0
    ∙ backward es (before ++ e ∷ []) (more before e es apart.1 agree.0) agree.1

apart_none : (es : List TwoIds) → ApartFrom [] es
apart_none [] = tt
apart_none (e ∷ es) = (refl, apart_none es)

pub none_agrees : NoClashAgrees
none_agrees es = ((λ none. (forward es [] none).1), (λ agree. backward es [] (apart_none es) agree))
