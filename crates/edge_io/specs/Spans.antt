-- The pieces of events within one list of bytes.
use Rattle.std.specs.Prelude.{◌+◌, ◌≤◌, ℕ, List, length, take, drop, map, All}
use Rattle.edge_io.specs.Events.{piece_len}
use Rattle.edge_io.specs.Scripts.{Arrival}
use Rattle.edge_io.specs.declared.scripts.Placed.{Placed}

-- The event with its piece, which starts at its offset.
abbrev pub arrival_of : List ℕ → Placed → Arrival
arrival_of pieces placed =
    (placed.event, take (piece_len placed.event.what) (drop placed.start pieces))

-- The events with their pieces.
abbrev pub arrivals_of : List ℕ → List Placed → List Arrival
arrivals_of pieces all = map (arrival_of pieces) all

-- The piece lies within the bytes.
abbrev pub PieceIsWithin : List ℕ → Placed → Type 0
PieceIsWithin pieces placed = placed.start + piece_len placed.event.what ≤ length pieces

-- Every piece lies within the bytes.
abbrev pub AllWithin : List ℕ → List Placed → Type 0
AllWithin pieces all = All (PieceIsWithin pieces) all
