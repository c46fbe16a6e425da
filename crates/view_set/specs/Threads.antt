-- Rows by their numbers, and the threads that they make.
use Rattle.std.specs.Prelude.{◌≡◌, ℕ, true, List, [], ◌∷◌}
use Rattle.mail_forms.specs.declared.row.Row.{Row}
use Rattle.thread_model.specs.Threads.{KeyedRow as Keyed}
use Rattle.thread_index.specs.Index.{Threads, members_of}

-- The keys of a row: its own id, and the ids of the messages that it answers.
abbrev pub keys_of : Row → List (List ℕ)
keys_of row = row.id ∷ row.refs

-- Rows by number, with their keys.
abbrev pub keyed : List (ℕ × Row) → List Keyed
keyed [] = []
keyed (e ∷ rows) = (e.0, keys_of e.1) ∷ keyed rows

-- The numbers of the rows in the thread of a number's row, in the order of the rows: those with a key
-- that is reached from its keys. Without a row of the number there are none.
unfoldable pub thread_in : List (ℕ × Row) → ℕ → List ℕ
thread_in rows n = members_of (keyed rows) n

-- Threads that are whole are those of the rows.
abbrev pub AreThreaded : List (ℕ × Row) → Threads → Type 0
AreThreaded rows threads = threads.whole ≡ true → threads.rows ≡ keyed rows

-- Threads that are whole after a change were whole before it, and then have these rows.
abbrev pub ThreadsBecome : Threads → Threads → List Keyed → Type 0
ThreadsBecome old new rows = new.whole ≡ true → (old.whole ≡ true) × (new.rows ≡ rows)
