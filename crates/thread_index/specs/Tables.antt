-- The tables of an index of threads.
use Rattle.std.specs.Prelude.{◌≡◌, ℕ, List, map, Option, Some, MatchOption}
use Rattle.thread_model.specs.Members.{Among, Once}
use Rattle.thread_model.specs.Threads.{KeyedRow}
use Rattle.thread_model.specs.Labelling.{IsLabelling, label_at, label_in}
use Rattle.thread_index.specs.Lists.{list_at, list_at_key}
use Rattle.thread_index.specs.declared.tables.Tables.{Tables}

-- Rows have numbers of their own, and each key lists the rows that have it.
pub record AreHolders (rows : List KeyedRow) (holders : List ℕ → List ℕ) : Type 0 where
  pub distinct : Once (map (λ (r : KeyedRow). r.0) rows)
  pub held : (r : KeyedRow) (k : List ℕ) → Among rows r → Among r.1 k → Among (holders k) r.0
  pub holds : (k : List ℕ) (n : ℕ) → Among (holders k) n
      → (r : KeyedRow) × Among rows r × (r.0 ≡ n) × Among r.1 k

-- Each row has the label of its thread, which is the number of one of the thread's rows. Each label
-- lists its rows, and each key the rows that have it.
pub record IsThreadIndex (rows : List KeyedRow) (labels : List (ℕ × ℕ)) (members : ℕ → List ℕ)
    (holders : List ℕ → List ℕ) : Type 0 where
  pub threads : IsLabelling rows (label_in labels)
  pub labelled : (r : KeyedRow) → Among rows r → label_at labels r.0 ≡ Some (label_in labels r.0)
  pub in_list : (r : KeyedRow) → Among rows r → Among (members (label_in labels r.0)) r.0
  pub of_list : (l n : ℕ) → Among (members l) n
      → (r : KeyedRow) × Among rows r × (r.0 ≡ n) × (label_in labels n ≡ l)
  pub once : (l : ℕ) → Once (members l)
  pub named : (r : KeyedRow) → Among rows r → (s : KeyedRow) × Among rows s
      × (s.0 ≡ label_in labels r.0) × (label_in labels s.0 ≡ label_in labels r.0)
  pub has : AreHolders rows holders

-- The tables are an index.
abbrev pub AreTables : Tables → Type 0
AreTables t = IsThreadIndex t.rows.entries t.labels (list_at t.members) (list_at_key t.holders)

-- The label of the rows that have a key; none if no row has it.
abbrev pub IsLabelOfKey : List KeyedRow → List (ℕ × ℕ) → List ℕ → Option ℕ → Type 0
IsLabelOfKey rows labels key found =
    MatchOption found ((r : KeyedRow) → Among rows r → Among r.1 key → ⊥)
    (λ label. (r : KeyedRow) × Among rows r × Among r.1 key × (label_in labels r.0 ≡ label))
