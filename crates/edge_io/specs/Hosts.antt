-- Events that a host gives, and what its connections take.
use Rattle.std.specs.Prelude.{◌≡◌, ◌≢◌, ◌≤◌, ◌+◌, ◌-◌, ◌^◌, ℕ, List, [], ◌∷◌, ◌++◌, length, take, min, Option, Some, None}
use Rattle.edge_io.specs.Events.{piece_len}
use Rattle.edge_io.specs.Scripts.{Arrival, IsArrival}
use Rattle.edge_io.specs.Frames.{Outputs}
use Rattle.edge_io.specs.declared.events.Event.{Event}

-- The events of a host, each with its piece, if they are told.
abbrev pub ToldEvents : Type 0
ToldEvents = Option (List Arrival)

-- The events given, and then this one. None stays None.
abbrev pub then_given : ToldEvents → Arrival → ToldEvents
then_given None arrival = None
then_given (Some arrivals) arrival = Some (arrivals ++ arrival ∷ [])

-- This event, followed by those that are left. None stays None.
abbrev pub before_left : Arrival → ToldEvents → ToldEvents
before_left arrival None = None
before_left arrival (Some arrivals) = Some (arrival ∷ arrivals)

-- No events are left, if they are told.
abbrev pub NoneLeft : ToldEvents → Type 0
NoneLeft None = Unit {0}
NoneLeft (Some arrivals) = arrivals ≡ []

-- No event was given, since none is left.
pub record GaveNone (left left' given given' : ToldEvents) : Type 0 where
  pub ended : NoneLeft left
  pub left_same : left' ≡ left
  pub given_same : given' ≡ given

-- An event was given, and its piece is at the front of the buffer.
pub record GaveOne (event : Event) (into : List ℕ) (left left' given given' : ToldEvents) : Type 0 where
  pub within : piece_len event.what ≤ length into
  pub arrival : IsArrival (event, take (piece_len event.what) into)
  pub first : left ≡ before_left (event, take (piece_len event.what) into) left'
  pub last : given' ≡ then_given given (event, take (piece_len event.what) into)

-- One event was given, or none is left.
abbrev pub GaveEvent : Option Event → List ℕ → ToldEvents → ToldEvents → ToldEvents → ToldEvents → Type 0
GaveEvent None into left left' given given' = GaveNone left left' given given'
GaveEvent (Some event) into left left' given given' = GaveOne event into left left' given given'

-- One more closing, up to the end of the count's type. None stays None.
abbrev pub one_more : Option ℕ → Option ℕ
one_more None = None
one_more (Some count) = Some (min (count + 1) (2 ^ 64 - 1))

-- What a connection had taken when it was last closed, after one more closing: what it has taken by
-- then. None stays None.
abbrev pub closed_with : Option (List ℕ) → Option (List ℕ) → Option (List ℕ)
closed_with taken None = None
closed_with taken (Some before) = taken

-- A host doesn't tell what its connections had taken when they were closed.
abbrev pub untold : {H : Type 0} → H → ℕ → Option (List ℕ)
untold host conn = None

-- Nothing changed at the other connections.
abbrev pub OthersKept : {X : Type 0} → ℕ → (ℕ → X) → (ℕ → X) → Type 0
OthersKept conn old new = (other : ℕ) → other ≢ conn → new other ≡ old other

-- A host: see the trait.
module _ {H : Type 0} (left given : H → ToldEvents) (recorded : H → List Outputs → Type 0)
    (faults : H → ℕ) where
  -- No event was given, and the record of the outputs at each event is as before.
  pub record SameEvents (old new : H) : Type 0 where
    pub left_same : left new ≡ left old
    pub given_same : given new ≡ given old
    pub recorded_same : (past : List Outputs) → recorded old past → recorded new past
    pub faults_same : faults new ≡ faults old

  -- Nothing but the bytes of one connection changed, and the count of lost calls.
  pub record SameElsewhere (taken : H → ℕ → Option (List ℕ)) (closings : H → ℕ → Option ℕ)
      (closed_at : H → ℕ → Option (List ℕ)) (conn : ℕ) (old new : H) : Type 0 where
    pub events : SameEvents old new
    pub others : OthersKept conn (taken old) (taken new)
    pub closings_same : (other : ℕ) → closings new other ≡ closings old other
    pub closed_at_same : (other : ℕ) → closed_at new other ≡ closed_at old other
