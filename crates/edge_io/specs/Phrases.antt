-- Words that are written to a sink.
use Rattle.std.specs.Prelude.{◌≡◌, ◌≤◌, ℕ, List, take, Option, Result, Ok, Err}
use Rattle.arch_base.specs.Counts.{Rose}
use Rattle.edge_io.specs.declared.sink.Sink.{Ghosts as Sink}
use Rattle.edge_io.specs.Taken.{plus}
use Rattle.edge_io.specs.declared.sink.SinkFault.{SinkFault}

-- All words were taken. If the write failed, a prefix of them was, and the count of faults rose.
abbrev pub Says : List ℕ → Option (List ℕ) → ℕ → Option (List ℕ) → ℕ → Result Unit SinkFault → Type 0
Says words out lost out' lost' (Ok done) = (lost' ≡ lost) × (out' ≡ plus out words)
Says words out lost out' lost' (Err fault) = (lost ≤ lost') × Rose lost lost'
    × ((n : ℕ) × (out' ≡ plus out (take n words)))

-- The same, said of the sink.
abbrev pub SaysTo : {O : Type 0} → Sink O → List ℕ → O → O → Result Unit SinkFault → Type 0
SaysTo o words old new result = Says words (o.taken old) (o.faults old) (o.taken new) (o.faults new) result
