-- How serving ends, by the events that were taken.
use Rattle.std.specs.Prelude.{◌≡◌, ◌≤◌, ◌<◌, ℕ, Bool, true, false, List, [], ◌∷◌, ◌++◌, length}
use Rattle.arch_base.specs.Counts.{Rose}
use Rattle.edge_io.specs.Hosts.{ToldEvents, then_given, before_left, NoneLeft}
use Rattle.edge_io.specs.Scripts.{Arrival}
use Rattle.edge_io.specs.declared.events.What.{What}
use Rattle.edge_io.specs.declared.events.What.TheVariants as what
use Rattle.node_serve.specs.declared.serving.ServeEnd.{ServeEnd}
use Rattle.node_serve.specs.declared.serving.ServeEnd.TheVariants.{Stopped, Spent, HostFault, NoMemory}

-- This is a stop.
abbrev pub is_stop : What → Bool
is_stop what.Stop = true
is_stop other = false

-- No event is a stop.
abbrev pub NoStop : List Arrival → Type 0
NoStop [] = Unit {0}
NoStop (e ∷ es) = (is_stop e.0.what ≡ false) × NoStop es

-- The last event is a stop, and no other is.
pub record EndsWithStop (es : List Arrival) : Type 0 where
  pub before : List Arrival
  pub last : Arrival
  pub none : NoStop before
  pub stops : is_stop last.0.what ≡ true
  pub are : es ≡ before ++ last ∷ []

-- What a host has given, after these events too.
abbrev pub given_after : ToldEvents → List Arrival → ToldEvents
given_after given [] = given
given_after given (e ∷ es) = given_after (then_given given e) es

-- These events in order, followed by those that are left. None stays None.
abbrev pub before_all : List Arrival → ToldEvents → ToldEvents
before_all [] left = left
before_all (e ∷ es) left = before_left e (before_all es left)

-- How serving ended, by whether the host answered that none is left: at a stop, or with none left
-- before as many events were taken as were allowed; after that many; because the host failed before
-- that; or, before the first event, because memory ran out. Only where it ended because the host
-- failed did the host fail: no failure is passed over.
abbrev pub ServingEnds : ServeEnd → Bool → List Arrival → ℕ → ToldEvents → ℕ → ℕ → Type 0
ServingEnds Stopped false es turns left faults faults' =
    EndsWithStop es × (length es ≤ turns) × (faults' ≡ faults)
ServingEnds Stopped true es turns left faults faults' =
    NoStop es × NoneLeft left × (length es < turns) × (faults' ≡ faults)
ServingEnds (Spent n) false es turns left faults faults' =
    (n ≡ turns) × (length es ≡ turns) × NoStop es × (faults' ≡ faults)
ServingEnds HostFault false es turns left faults faults' =
    NoStop es × Rose faults faults' × (length es < turns)
ServingEnds NoMemory false es turns left faults faults' = (es ≡ []) × (faults' ≡ faults)
ServingEnds other true es turns left faults faults' = ⊥
