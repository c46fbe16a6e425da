-- Labels that stand for threads, and how a new row changes them.
use Rattle.std.specs.Prelude.{◌≡◌, ◌⊎◌, ◌==◌, ℕ, List, Option, Some, None, if◌then◌else◌}
use Rattle.std.specs.Map.{lookup}
use Rattle.std.specs.BTreeMap.{is_at}
use Rattle.std.specs.Ordering.{nat_cmp}
use Rattle.thread_model.specs.Members.{Among}
use Rattle.thread_model.specs.Threads.{KeyedRow, Linked}

-- The label of a number, if it has one.
abbrev pub label_at : List (ℕ × ℕ) → ℕ → Option ℕ
label_at labels n = lookup (is_at (nat_cmp n)) labels

-- A label that may be there, or 0.
abbrev pub label_or_zero : Option ℕ → ℕ
label_or_zero None = 0
label_or_zero (Some label) = label

-- The label of a number, or 0 if it has none.
abbrev pub label_in : List (ℕ × ℕ) → ℕ → ℕ
label_in labels n = label_or_zero (label_at labels n)

-- A number got a label, and the other labels stayed.
abbrev pub Sets : List (ℕ × ℕ) → List (ℕ × ℕ) → ℕ → ℕ → Type 0
Sets old new n label = (m : ℕ)
    → label_at new m ≡ (if n == m then Some label else label_at old m)

-- Rows with a common key have one label. Two rows of one label have joined keys.
pub record IsLabelling (rows : List KeyedRow) (label : ℕ → ℕ) : Type 0 where
  pub sound : (r s : KeyedRow) → Among rows r → Among rows s
      → (k : List ℕ) → Among r.1 k → Among s.1 k → label r.0 ≡ label s.0
  pub tight : (r s : KeyedRow) → Among rows r → Among rows s → label r.0 ≡ label s.0
      → (r ≡ s) ⊎ Linked rows r s

-- The labels that rows with one of some keys have, and no others.
pub record IsTouched (rows : List KeyedRow) (label : ℕ → ℕ) (keys : List (List ℕ))
    (touched : List ℕ) : Type 0 where
  pub hit : (s : KeyedRow) → Among rows s → (k : List ℕ) → Among s.1 k → Among keys k
      → Among touched (label s.0)
  pub only : (l : ℕ) → Among touched l
      → (s : KeyedRow) × (k : List ℕ) × Among rows s × (label s.0 ≡ l) × Among s.1 k × Among keys k
