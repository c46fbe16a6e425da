-- The frames in which a replay prints what the events of a script wrote.
use Rattle.std.specs.Prelude.{◌≡◌, ◌≤◌, ℕ, zero, suc, Bool, true, false, nat_lt, List, [], ◌∷◌, ◌++◌, length, take, drop, codes, Option, Some, None}
use Rattle.std.specs.Fmt.{decimal}

-- What the connections of a host have taken, how often each was closed, and how many calls of `send`
-- were lost.
pub record Outputs : Type 0 where
  pub taken : ℕ → Option (List ℕ)
  pub closings : ℕ → Option ℕ
  pub lost : ℕ

-- The outputs of these parts.
abbrev pub outputs : (ℕ → Option (List ℕ)) → (ℕ → Option ℕ) → ℕ → Outputs
outputs taken closings lost = record { taken = taken; closings = closings; lost = lost }

-- No connection has taken anything, none was closed, and no call was lost.
abbrev pub nothing : Outputs
nothing = outputs (λ conn. Some []) (λ conn. Some 0) 0

-- The bytes, or none if they are not told.
abbrev pub bytes_or_none : Option (List ℕ) → List ℕ
bytes_or_none None = []
bytes_or_none (Some bytes) = bytes

-- The count, or 0 if it is not told.
abbrev pub count_or_0 : Option ℕ → ℕ
count_or_0 None = 0
count_or_0 (Some count) = count

-- The bytes that a connection took between two moments.
abbrev pub taken_between : Outputs → Outputs → ℕ → List ℕ
taken_between before after conn =
    drop (length (bytes_or_none (before.taken conn))) (bytes_or_none (after.taken conn))

-- The connection was closed between two moments.
abbrev pub closed_between : Outputs → Outputs → ℕ → Bool
closed_between before after conn =
    nat_lt (count_or_0 (before.closings conn)) (count_or_0 (after.closings conn))

-- A text and a line feed.
abbrev pub with_feed : List ℕ → List ℕ
with_feed text = text ++ 10 ∷ []

-- A line with a connection's number and the length of what it took.
abbrev pub head : ℕ → ℕ → List ℕ
head conn len = with_feed (decimal conn ++ 32 ∷ decimal len)

-- The bytes that a connection took at an event, after their head; nothing if there are none.
abbrev pub written : ℕ → List ℕ → List ℕ
written conn [] = []
written conn (b ∷ bs) = head conn (length (b ∷ bs)) ++ with_feed (b ∷ bs)

-- The line of a connection that the server closed, or nothing.
abbrev pub closing : ℕ → Bool → List ℕ
closing conn true = with_feed (decimal conn ++ codes " closed")
closing conn false = []

-- The texts of so many connections in a row.
abbrev pub each_from : (ℕ → List ℕ) → ℕ → ℕ → List ℕ
each_from text first zero = []
each_from text first (suc count) = text first ++ each_from text (suc first) count

-- The texts of all connections that a script may have, in rising order.
unfoldable pub each_connection : (ℕ → List ℕ) → List ℕ
each_connection text = each_from text 0 65536

-- What is written of one connection between two moments.
abbrev pub written_between : Outputs → Outputs → ℕ → List ℕ
written_between before after conn = written conn (taken_between before after conn)

-- The line of one connection that was closed between two moments, or nothing.
abbrev pub closing_between : Outputs → Outputs → ℕ → List ℕ
closing_between before after conn = closing conn (closed_between before after conn)

-- The frames of an event, from the outputs before and after it: first what the connections took,
-- and then the lines of those that were closed.
abbrev pub event_frame : Outputs → Outputs → List ℕ
event_frame before after =
    each_connection (written_between before after) ++ each_connection (closing_between before after)

-- The frames of the events between outputs in a row.
abbrev pub frames_from : Outputs → List Outputs → List ℕ
frames_from before [] = []
frames_from before (after ∷ later) = event_frame before after ++ frames_from after later

-- The frames of the events, from the outputs at each call of `next`. What was written before the
-- first call comes first.
abbrev pub frames_of : List Outputs → List ℕ
frames_of past = frames_from nothing past

-- The last of some outputs, or those before them if there are none.
abbrev pub last_from : Outputs → List Outputs → Outputs
last_from before [] = before
last_from before (after ∷ later) = last_from after later

-- The last of some outputs, or those of connections that took nothing if there are none.
abbrev pub last_of : List Outputs → Outputs
last_of past = last_from nothing past

-- The frames are those up to one of the calls of `next`, or none. Until that call none of `send` was
-- lost.
pub record FirstFrames (past : List Outputs) (frames : List ℕ) : Type 0 where
  pub count : ℕ
  pub within : count ≤ length past
  pub frames_are : frames ≡ frames_of (take count past)
  pub none_lost : (last_of (take count past)).lost ≡ 0
