-- Texts that differ and have one id in a new form.
use Rattle.std.specs.Prelude.{◌≡◌, ◌↔◌, ℕ, Bool, not, ◌&&◌, List, [], ◌∷◌, ◌++◌, Option, Some, None, if◌then◌else◌}
use Rattle.std.specs.List.{AllByRecursion, list_any}
use Rattle.arch_base.specs.Ids.{id_eq}
use Rattle.id_clashes.specs.declared.clashes.TwoIds.{TwoIds}

-- Two texts have one id in the new form, and different ones in the old.
abbrev pub clashes : TwoIds → TwoIds → Bool
clashes e f = id_eq e.new f.new && not (id_eq e.old f.old)

-- The number of the first of some texts that clashes with one before it. These texts are before all.
abbrev pub first_clash_of : List TwoIds → List TwoIds → Option ℕ
first_clash_of before [] = None
first_clash_of before (e ∷ es) =
    if list_any (clashes e) before then Some e.number else first_clash_of (before ++ e ∷ []) es

-- Texts with one new id have one old id.
abbrev pub OldIdsAgree : List TwoIds → Type 0
OldIdsAgree [] = Unit {0}
OldIdsAgree (e ∷ es) =
    AllByRecursion (λ (f : TwoIds). f.new ≡ e.new → f.old ≡ e.old) es × OldIdsAgree es

-- No text clashes exactly where texts with one new id have one old id.
abbrev pub NoClashAgrees : Type 0
NoClashAgrees = (es : List TwoIds) → (first_clash_of [] es ≡ None) ↔ OldIdsAgree es
