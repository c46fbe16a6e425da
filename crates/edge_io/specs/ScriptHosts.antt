-- The host over a script, which collects frames.
use Rattle.std.specs.Prelude.{◌≡◌, ◌≤◌, ◌<◌, ◌⊎◌, ℕ, List, [], ◌++◌, length, take, get_or, Some}
use Rattle.edge_io.specs.Frames.{Outputs, outputs, bytes_or_none, count_or_0, event_frame, frames_of, last_of, FirstFrames}
use Rattle.edge_io.specs.Passing.{PassedEvents, unbegun}
use Rattle.edge_io.specs.Scripts.{Arrival}
use Rattle.edge_io.specs.MemHosts.{Outgoing, outputs_in, IsUnused}
use Rattle.edge_io.specs.declared.marks.Mark.{Mark}
use Rattle.edge_io.specs.declared.marks.Touched.{Touched}

-- The mark of a connection: how many bytes it had taken, and how often it was closed.
abbrev pub mark_at : List Mark → ℕ → Mark
mark_at marks conn = get_or marks conn (record { len = 0; closings = 0 })

-- The outputs when the marks were made, which don't tell how many calls were lost.
abbrev pub marked : Outputs → List Mark → Outputs
marked now marks =
    outputs (λ conn. Some (take (mark_at marks conn).len (bytes_or_none (now.taken conn))))
    (λ conn. Some (mark_at marks conn).closings) 0

-- The connection took no more bytes than its mark says, and was closed as often.
pub record IsAtMark (now : Outputs) (marks : List Mark) (conn : ℕ) : Type 0 where
  pub taken_at : length (bytes_or_none (now.taken conn)) ≤ (mark_at marks conn).len
  pub closings_at : count_or_0 (now.closings conn) ≡ (mark_at marks conn).closings

-- The connection is none of those from the first to the last that were touched.
abbrev pub IsOutside : Touched → ℕ → Type 0
IsOutside touched conn = (conn < touched.first) ⊎ (touched.after ≤ conn)

-- The marks are of all connections, and those that weren't touched since are at their marks.
pub record AreMarked (now : Outputs) (marks : List Mark) (touched : Touched) : Type 0 where
  pub all_marked : length marks ≡ 65536
  pub bounded : touched.after ≤ 65536
  pub within : (conn : ℕ) → conn < 65536
      → (mark_at marks conn).len ≤ length (bytes_or_none (now.taken conn))
  pub others_at : (conn : ℕ) → conn < 65536 → IsOutside touched conn → IsAtMark now marks conn

-- The state of a host: its events, its outputs, the marks of these when the last event was given, the
-- frames, and the count of calls that ran out of memory.
pub record Scripting : Type 0 where
  pub events : PassedEvents
  pub outgoing : Outgoing
  pub marks : List Mark
  pub frames : List ℕ
  pub starved : ℕ

-- The outputs when the last event was given.
abbrev pub begun_of : Scripting → Outputs
begun_of s = marked (outputs_in s.outgoing) s.marks

-- Outputs agree on the connections that a script may have.
pub record AgreeOn (a b : Outputs) (conn : ℕ) : Type 0 where
  pub taken_agree : bytes_or_none (a.taken conn) ≡ bytes_or_none (b.taken conn)
  pub closings_agree : count_or_0 (a.closings conn) ≡ count_or_0 (b.closings conn)

-- The outputs at each call of `next` were these, and the frames are those of the events between
-- them. If a call ran out of memory, they are those of the first of these events.
pub record Recorded (host : Scripting) (past : List Outputs) : Type 0 where
  pub begun_is : (conn : ℕ) → conn < 65536 → AgreeOn (begun_of host) (last_of past) conn
  pub frames_are : host.starved ≡ 0 → host.frames ≡ frames_of past
  pub first_frames : FirstFrames past host.frames

-- The frames of an event were appended, and no call was lost until then. Or a call ran out of
-- memory, and the frames are as before.
pub record Collected (old new : Scripting) : Type 0 where
  pub later : old.starved ≤ new.starved
  pub appended : new.starved ≡ 0
      → new.frames ≡ old.frames ++ event_frame (begun_of old) (outputs_in old.outgoing)
  pub none_lost : new.starved ≡ 0 → old.outgoing.lost ≡ 0
  pub unchanged : 1 ≤ new.starved → new.frames ≡ old.frames

-- The state of a new host.
pub record IsNewScriptHost (arrivals : List Arrival) (host : Scripting) : Type 0 where
  pub events_are : host.events ≡ unbegun arrivals
  pub unused : IsUnused (outputs_in host.outgoing)
  pub nothing_yet : Recorded host []
  pub not_starved : host.starved ≡ 0
