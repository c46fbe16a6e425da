-- The laws of threads.
use Rattle.std.specs.Prelude.{◌≡◌, ◌↔◌, ℕ, Bool, true, List}
use Rattle.thread_model.specs.Members.{Among}
use Rattle.thread_model.specs.Threads.{KeyedRow, shares, reached, thread, Respects, Linked}

-- As many rounds as there are rows are enough: one more would add no key.
abbrev pub RoundsSuffice : Type 0
RoundsSuffice = (rows : List KeyedRow) (keys : List (List ℕ)) (row : KeyedRow) → Among rows row
    → shares (reached rows keys) row ≡ true
    → (k : List ℕ) → Among row.1 k → Among (reached rows keys) k

-- The first keys are reached.
abbrev pub FirstAreReached : Type 0
FirstAreReached = (rows : List KeyedRow) (keys : List (List ℕ)) (k : List ℕ) → Among keys k
    → Among (reached rows keys) k

-- Nothing more is reached than must be: a test that passes the first keys, and tells no two keys of
-- one row apart, passes all that are reached.
abbrev pub ReachedIsLeast : Type 0
ReachedIsLeast = (rows : List KeyedRow) (keys : List (List ℕ)) (test : List ℕ → Bool)
    → Respects test rows → ((k : List ℕ) → Among keys k → test k ≡ true)
    → (k : List ℕ) → Among (reached rows keys) k → test k ≡ true

-- Two rows are in one thread exactly where the rows join a key of one with a key of the other.
abbrev pub ThreadsAreLinked : Type 0
ThreadsAreLinked = (rows : List KeyedRow) (r s : KeyedRow) → Among rows r → Among rows s
    → Among (thread rows r.1) s ↔ Linked rows r s

-- If a row is in the thread of another, so is the other in its own.
abbrev pub ThreadsGoBack : Type 0
ThreadsGoBack = (rows : List KeyedRow) (r s : KeyedRow) → Among rows r
    → Among (thread rows r.1) s → Among (thread rows s.1) r

-- Rows in the thread of one row are in one thread with each other.
abbrev pub ThreadsGoOn : Type 0
ThreadsGoOn = (rows : List KeyedRow) (r s t : KeyedRow) → Among rows r
    → Among (thread rows r.1) s → Among (thread rows s.1) t → Among (thread rows r.1) t
