-- Threads of rows: the keys that rounds reach, and the rows that have one of them.
use Rattle.std.specs.Prelude.{◌≡◌, ◌⊎◌, ◌↔◌, ℕ, zero, suc, Bool, List, ◌++◌, length}
use Rattle.std.specs.List.{filter, flat_map, list_any}
use Rattle.thread_model.specs.Members.{Among, has}

-- A row: its number, and its keys.
abbrev pub KeyedRow : Type 0
KeyedRow = ℕ × List (List ℕ)

-- Whether a row has one of some keys.
abbrev pub shares : List (List ℕ) → KeyedRow → Bool
shares keys row = list_any (has keys) row.1

-- One round: the keys of each row that has one of the keys are added.
abbrev pub round : List KeyedRow → List (List ℕ) → List (List ℕ)
round rows keys = keys ++ flat_map (λ (row : KeyedRow). row.1) (filter (shares keys) rows)

-- So many rounds.
abbrev pub rounds : ℕ → List KeyedRow → List (List ℕ) → List (List ℕ)
rounds zero rows keys = keys
rounds (suc n) rows keys = round rows (rounds n rows keys)

-- The keys that are reached from some keys: by as many rounds as there are rows.
unfoldable pub reached : List KeyedRow → List (List ℕ) → List (List ℕ)
reached rows keys = rounds (length rows) rows keys

-- The thread of some keys: the rows that have one of the keys that are reached.
abbrev pub thread : List KeyedRow → List (List ℕ) → List KeyedRow
thread rows keys = filter (shares (reached rows keys)) rows

-- Two rows are in one thread. A row without keys is in one with itself alone.
abbrev pub AreInOneThread : List KeyedRow → KeyedRow → KeyedRow → Type 0
AreInOneThread rows r s = (r ≡ s) ⊎ Among (thread rows r.1) s

-- Labels of the rows' numbers: two rows have one label exactly where they are in one thread.
abbrev pub AreThreads : List KeyedRow → (ℕ → ℕ) → Type 0
AreThreads rows label = (r s : KeyedRow) → Among rows r → Among rows s
    → (label r.0 ≡ label s.0) ↔ AreInOneThread rows r s

-- A test of keys tells no two keys of one row apart.
pub record Respects (test : List ℕ → Bool) (rows : List KeyedRow) : Type 0 where
  pub same : (row : KeyedRow) → Among rows row → (k m : List ℕ) → Among row.1 k → Among row.1 m
      → test k ≡ test m

-- Rows join two keys: no test that respects the rows tells them apart.
abbrev pub JoinsKeys : List KeyedRow → List ℕ → List ℕ → Type 0
JoinsKeys rows k m = (test : List ℕ → Bool) → Respects test rows → test k ≡ test m

-- A key of one row and a key of another are joined.
abbrev pub Linked : List KeyedRow → KeyedRow → KeyedRow → Type 0
Linked rows r s = (k : List ℕ) × (m : List ℕ) × Among r.1 k × Among s.1 m × JoinsKeys rows k m
