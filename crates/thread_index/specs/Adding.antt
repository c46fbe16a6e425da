-- Private: the steps of adding a row.
use Rattle.std.specs.Prelude.{◌≡◌, ◌⊎◌, ◌==◌, ◌≤◌, ℕ, List, [], ◌++◌, length, Some, if◌then◌else◌}
use Rattle.thread_model.specs.Members.{Among, Once}
use Rattle.thread_model.specs.Threads.{KeyedRow}
use Rattle.thread_model.specs.Labelling.{label_at, label_in}

-- The label of the rows that have a key was noted.
pub record NotesLabel (rows : List KeyedRow) (labels : List (ℕ × ℕ)) (key : List ℕ)
    (old new : List ℕ) : Type 0 where
  pub kept : (l : ℕ) → Among old l → Among new l
  pub hit : (s : KeyedRow) → Among rows s → Among s.1 key → Among new (label_in labels s.0)
  pub only : (l : ℕ) → Among new l → Among old l
      ⊎ ((s : KeyedRow) × Among rows s × (label_in labels s.0 ≡ l) × Among s.1 key)

-- One of two labels, whose list is at least as long as both lists.
pub record IsLonger (members : ℕ → List ℕ) (a b longer : ℕ) : Type 0 where
  pub one : (longer ≡ a) ⊎ (longer ≡ b)
  pub first : length (members a) ≤ length (members longer)
  pub second : length (members b) ≤ length (members longer)

-- A touched label whose list is the longest; the new number if no label is touched.
pub record IsTarget (members : ℕ → List ℕ) (touched : List ℕ) (n target : ℕ) : Type 0 where
  pub some : Among touched target ⊎ ((touched ≡ []) × (target ≡ n))
  pub most : (l : ℕ) → Among touched l → length (members l) ≤ length (members target)

-- The list of a label was moved to the end of others, if the label isn't the target.
pub record MovesList (old new : ℕ → List ℕ) (label target : ℕ)
    (moved moved' : List ℕ) : Type 0 where
  pub stays : label ≡ target → (moved' ≡ moved) × ((l : ℕ) → new l ≡ old l)
  pub goes : (label ≡ target → ⊥)
      → (moved' ≡ moved ++ old label) × ((l : ℕ) → new l ≡ (if label == l then [] else old l))

-- What is moved are the rows of the touched labels but the target. The lists of these labels are
-- then empty.
pub record Gathers (old new : ℕ → List ℕ) (touched : List ℕ) (target : ℕ)
    (moved : List ℕ) : Type 0 where
  pub emptied : (l : ℕ) → Among touched l → (l ≡ target → ⊥) → new l ≡ []
  pub stay : (l : ℕ) → (Among touched l → l ≡ target) → new l ≡ old l
  pub from : (n : ℕ) → Among moved n
      → (l : ℕ) × Among touched l × (l ≡ target → ⊥) × Among (old l) n
  pub all : (l n : ℕ) → Among touched l → (l ≡ target → ⊥) → Among (old l) n → Among moved n
  pub once : ((l : ℕ) → Once (old l))
      → ((l m n : ℕ) → Among (old l) n → Among (old m) n → l ≡ m) → Once moved

-- Some numbers got a label, and the other labels stayed.
pub record GiveLabel (old new : List (ℕ × ℕ)) (ns : List ℕ) (label : ℕ) : Type 0 where
  pub given : (n : ℕ) → Among ns n → label_at new n ≡ Some label
  pub kept : (n : ℕ) → (Among ns n → ⊥) → label_at new n ≡ label_at old n

-- The lists of some keys got a number.
pub record HeldBy (old new : List ℕ → List ℕ) (keys : List (List ℕ)) (n : ℕ) : Type 0 where
  pub kept : (k : List ℕ) (m : ℕ) → Among (old k) m → Among (new k) m
  pub new' : (k : List ℕ) → Among keys k → Among (new k) n
  pub cases : (k : List ℕ) (m : ℕ) → Among (new k) m
      → Among (old k) m ⊎ ((m ≡ n) × Among keys k)
