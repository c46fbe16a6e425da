-- Scripts: lists of events, each with its piece.
use Rattle.std.specs.Prelude.{◌≡◌, ◌≢◌, ◌<◌, ◌+◌, ℕ, List, [], ◌++◌, length, All, Option, Some, None, Result, Ok, Err}
use Rattle.std.specs.List.{flat_map, slice_get}
use Rattle.edge_io.specs.Events.{IsEvent, spelled}
use Rattle.edge_io.specs.declared.events.Event.{Event}
use Rattle.edge_io.specs.declared.scripts.ScriptRefusal.{ScriptRefusal}
use Rattle.edge_io.specs.declared.scripts.ScriptRefusal.TheVariants.{Bad, NoMemory}

-- An event and the piece that came with it.
abbrev pub Arrival : Type 0
Arrival = Event × List ℕ

-- An arrival that a script may have.
abbrev pub IsArrival : Arrival → Type 0
IsArrival arrival = IsEvent arrival.0 arrival.1

-- The forms of arrivals in a row.
abbrev pub spelled_all : List Arrival → List ℕ
spelled_all arrivals = flat_map (λ (arrival : Arrival). spelled arrival.0 arrival.1) arrivals

-- The bytes are the script of these arrivals.
pub record IsScript (arrivals : List Arrival) (bytes : List ℕ) : Type 0 where
  pub each : All IsArrival arrivals
  pub spells : bytes ≡ spelled_all arrivals

-- The bytes start with no event that a script may have.
abbrev pub HasNoFirst : List ℕ → Type 0
HasNoFirst bytes = (event : Event) (piece after : List ℕ) → IsEvent event piece
    → bytes ≢ spelled event piece ++ after

-- The event with this number, from 1, is the first of the bytes that is malformed or incomplete.
pub record IsBad (number : ℕ) (bytes : List ℕ) : Type 0 where
  pub arrivals : List Arrival
  pub rest : List ℕ
  pub each : All IsArrival arrivals
  pub spells : bytes ≡ spelled_all arrivals ++ rest
  pub counted : number ≡ length arrivals + 1
  pub more : 0 < length rest
  pub none : HasNoFirst rest

-- The result of reading bytes: their script, their first bad event, or out of memory.
abbrev pub IsScriptReading : List ℕ → Result (List Arrival) ScriptRefusal → Type 0
IsScriptReading bytes (Ok arrivals) = IsScript arrivals bytes
IsScriptReading bytes (Err (Bad number)) = IsBad number bytes
IsScriptReading bytes (Err NoMemory) = Unit {0}

-- The event of an arrival, if there is one.
abbrev pub event_in : Option Arrival → Option Event
event_in None = None
event_in (Some arrival) = Some arrival.0

-- The piece of an arrival, or no bytes if there is none.
abbrev pub piece_in : Option Arrival → List ℕ
piece_in None = []
piece_in (Some arrival) = arrival.1

-- The event at an index, from 0, if there is one.
abbrev pub event_at : List Arrival → ℕ → Option Event
event_at arrivals i = event_in (slice_get arrivals i)

-- The piece at an index, from 0, or no bytes if there is none.
abbrev pub piece_at : List Arrival → ℕ → List ℕ
piece_at arrivals i = piece_in (slice_get arrivals i)

-- Bytes are read in one way: they are the script of at most one list of arrivals, they are bad at
-- no more than one event, and never both.
pub record ReadInOneWay : Type 0 where
  pub script : (bytes : List ℕ) (a b : List Arrival) → IsScript a bytes → IsScript b bytes → a ≡ b
  pub bad : (bytes : List ℕ) (m n : ℕ) → IsBad m bytes → IsBad n bytes → m ≡ n
  pub apart : (bytes : List ℕ) (a : List Arrival) (n : ℕ) → IsScript a bytes → IsBad n bytes → ⊥
