-- The threads of live messages.
use Rattle.std.specs.Prelude.{◌==◌, ℕ, List, [], ◌∷◌, map, if◌then◌else◌}
use Rattle.thread_model.specs.Threads.{KeyedRow, thread}
use Rattle.mail_reader.specs.References.{refs_of}
use Rattle.arch_model.specs.Archives.{Entry}
use Rattle.arch_model.specs.Overviews.{id_fact}

-- The keys of a message: its own id, and the ids of the messages that it answers.
abbrev pub keys_of : Entry → List (List ℕ)
keys_of e = id_fact e.text ∷ refs_of e.text

-- Messages by number, with their keys.
abbrev pub keyed : List Entry → List KeyedRow
keyed entries = map (λ (e : Entry). (e.number, keys_of e)) entries

-- The keys of the first of some messages with a number, or none without one.
abbrev pub keys_in : List Entry → ℕ → List (List ℕ)
keys_in [] n = []
keys_in (e ∷ es) n = if e.number == n then keys_of e else keys_in es n

-- The numbers of the messages in the thread of a number, in the order of the messages: those with a
-- key that is reached from its keys. Without a message of the number there are none.
unfoldable pub thread_in : List Entry → ℕ → List ℕ
thread_in entries n = map (λ (row : KeyedRow). row.0) (thread (keyed entries) (keys_in entries n))
