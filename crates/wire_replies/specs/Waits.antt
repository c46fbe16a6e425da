-- Words that wait to be written to a sink.
use Rattle.std.specs.Prelude.{◌≡◌, ◌≤◌, ℕ, List, ◌++◌, take, Option, Result, Ok, Err}
use Rattle.arch_base.specs.Counts.{Rose}
use Rattle.edge_io.specs.Taken.{plus}
use Rattle.edge_io.specs.declared.sink.SinkFault.{SinkFault}

-- The greatest length of a piece that is written, in bytes.
abbrev pub piece_limit : ℕ
piece_limit = 4096

-- Words were appended to those that wait: some from the front were written, and the others wait. If a
-- write failed, a prefix of all of them was taken, and the count of faults rose.
abbrev pub Waits : List ℕ → List ℕ → Option (List ℕ) → ℕ → List ℕ → Option (List ℕ) → ℕ
    → Result Unit SinkFault → Type 0
Waits words old out lost new out' lost' (Ok done) =
    (lost' ≡ lost) × ((sent : List ℕ) × (out' ≡ plus out sent) × (sent ++ new ≡ old ++ words))
Waits words old out lost new out' lost' (Err fault) = (lost ≤ lost') × Rose lost lost'
    × ((n : ℕ) × (out' ≡ plus out (take n (old ++ words))))
