-- Laws of lists.
use Rattle.std.specs.Prelude.{◌≡◌, ◌≢◌, ◌⊎◌, ℕ, List, ◌∷◌, ◌++◌, Result, IfOk, IsOkUnless}
use Rattle.std.specs.List.{concat}
use Rattle.arch_base.specs.declared.ids.Form.{Form}
use Rattle.arch_model.specs.Archives.{Archive}
use Rattle.arch_model.specs.Validity.{IsArchive}
use Rattle.mirror_wire.specs.declared.list.MirrorList.{MirrorList}
use Rattle.mirror_wire.specs.declared.list.ListRefusal.{ListRefusal}
use Rattle.mirror_wire.specs.declared.list.ListRefusal.TheVariants.{NoMemory}
use Rattle.mirror_wire.specs.Lists.{list_lines, list_text, list_of}
use Rattle.mirror_wire.specs.Rules.{IsMirrorList}
use Rattle.mirror_wire.specs.Reading.{IsFirstBad, ReadsList}

-- At most one line of a text is the first bad one.
abbrev pub BadInOnePlace : Type 0
BadInOnePlace = (form : Form) (text : List ℕ) (m n : ℕ)
    → IsFirstBad form text m → IsFirstBad form text n → m ≡ n

-- Valid lists with one text are of one form, and are one list.
abbrev pub TextsTellLists : Type 0
TextsTellLists = (form other : Form) (a b : MirrorList) → IsMirrorList form a → IsMirrorList other b
    → list_text form a ≡ list_text other b → (form ≡ other) × (a ≡ b)

-- The list of a valid archive is valid.
abbrev pub ListsAreValid : Type 0
ListsAreValid = (a : Archive) → IsArchive a → IsMirrorList a.config.form (list_of a)

-- The text of a valid archive's list is read as that list, unless memory runs out.
abbrev pub ListsAreReadBack : Type 0
ListsAreReadBack = (a : Archive) (result : Result MirrorList ListRefusal) → IsArchive a
    → ReadsList a.config.form (list_text a.config.form (list_of a)) result
    → IfOk result (λ list. list ≡ list_of a) × IsOkUnless result NoMemory

-- Some lines are left of others without one of them.
pub record LeavesOutLine (lines changed : List (List ℕ)) : Type 0 where
  pub front : List (List ℕ)
  pub line : List ℕ
  pub rest : List (List ℕ)
  pub was : lines ≡ front ++ line ∷ rest
  pub is : changed ≡ front ++ rest

-- Some lines are others with one of them twice, once right after the other.
pub record DoublesLine (lines changed : List (List ℕ)) : Type 0 where
  pub front : List (List ℕ)
  pub line : List ℕ
  pub rest : List (List ℕ)
  pub was : lines ≡ front ++ line ∷ rest
  pub is : changed ≡ front ++ line ∷ line ∷ rest

-- Some lines are others with two different ones of them exchanged.
pub record ExchangesLines (lines changed : List (List ℕ)) : Type 0 where
  pub front : List (List ℕ)
  pub first : List ℕ
  pub middle : List (List ℕ)
  pub second : List ℕ
  pub rest : List (List ℕ)
  pub differ : first ≢ second
  pub was : lines ≡ front ++ first ∷ (middle ++ second ∷ rest)
  pub is : changed ≡ front ++ second ∷ (middle ++ first ∷ rest)

-- Some lines are others with a line left out or doubled, or with two exchanged.
abbrev pub ChangesLines : List (List ℕ) → List (List ℕ) → Type 0
ChangesLines lines changed =
    LeavesOutLine lines changed ⊎ DoublesLine lines changed ⊎ ExchangesLines lines changed

-- The list of a valid archive, with a line left out or doubled or with two exchanged, is refused or
-- read as another list.
abbrev pub ChangesShow : Type 0
ChangesShow = (a : Archive) (changed : List (List ℕ)) (result : Result MirrorList ListRefusal)
    → IsArchive a → ChangesLines (list_lines a.config.form (list_of a)) changed
    → ReadsList a.config.form (concat changed) result → IfOk result (λ list. list ≢ list_of a)
