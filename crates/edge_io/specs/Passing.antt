-- The events of a script, given one by one.
use Rattle.std.specs.Prelude.{ℕ, List, take, drop}
use Rattle.edge_io.specs.Scripts.{Arrival}

-- All events, and how many of them were given.
pub record PassedEvents : Type 0 where
  pub all : List Arrival
  pub at : ℕ

-- None of these events was given yet.
abbrev pub unbegun : List Arrival → PassedEvents
unbegun arrivals = record { all = arrivals; at = 0 }

-- The events that were given.
abbrev pub given_of : PassedEvents → List Arrival
given_of p = take p.at p.all

-- The events that are left.
abbrev pub left_of : PassedEvents → List Arrival
left_of p = drop p.at p.all
