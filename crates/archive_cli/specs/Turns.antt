-- What the events of a script do to an archive and its connections, and what is printed of them.
use Rattle.std.specs.Prelude.{◌≡◌, ◌<◌, ◌&&◌, ℕ, Bool, true, false, not, List, [], ◌∷◌, Some, None}
use Rattle.arch_base.specs.declared.config.Config.{Config}
use Rattle.edge_io.specs.Frames.{Outputs, FirstFrames, frames_of}
use Rattle.edge_io.specs.Scripts.{Arrival}
use Rattle.arch_model.specs.Archives.{Archive, empty_archive}
use Rattle.arch_model.specs.Standing.{standing}
use Rattle.node_serve.specs.Ends.{is_stop}
use Rattle.node_serve.specs.Nodes.{outputs_asked}
use Rattle.node_serve.specs.Plain.{plain_turns, last_world}
use Rattle.node_serve.specs.Turns.{Turn, Served}
use Rattle.node_serve.specs.World.{NodeState, outer}

-- The events after one that is a stop or none: no more are kept after a stop.
abbrev pub kept_after : Bool → List Arrival → List Arrival
kept_after true arrivals = []
kept_after false arrivals = arrivals

-- The events up to the first stop, and that one if there is one.
abbrev pub to_stop : List Arrival → List Arrival
to_stop [] = []
to_stop (e ∷ es) = e ∷ kept_after (is_stop e.0.what) (to_stop es)

-- No event is a stop.
abbrev pub has_none : List Arrival → Bool
has_none [] = true
has_none (e ∷ es) = not (is_stop e.0.what) && has_none es

-- A world in which nothing was said yet: an archive stands there, and no connection has a session.
pub record IsStart (a : Archive) (w : NodeState) : Type 0 where
  pub stands : w.standing ≡ standing a None
  pub none : (c : ℕ) → w.session c ≡ None
  pub count : w.count ≡ 0

-- The same, and no connection that a script may have took anything or was closed, and neither the
-- disk nor a send failed.
pub record IsFreshWorld (a : Archive) (w : NodeState) : Type 0 where
  pub start : IsStart a w
  pub taken : (c : ℕ) → c < 65536 → w.out.taken c ≡ Some []
  pub closings : (c : ℕ) → c < 65536 → w.out.closings c ≡ Some 0
  pub disk : w.out.disk ≡ 0
  pub lost : w.out.lost ≡ 0

-- The events of a script over an empty archive with these settings, each taken to its end in order
-- up to the first stop.
pub record Plays (config : Config) (arrivals : List Arrival) : Type 0 where
  pub first : NodeState
  pub fresh : IsFreshWorld (empty_archive config) first
  pub turns : List Turn
  pub after : NodeState
  pub served : Served (to_stop arrivals) first turns after

-- What the connections had taken before each of these events, and at the end if none was a stop.
abbrev pub outputs_played : {config : Config} {arrivals : List Arrival} → Plays config arrivals
    → List Outputs
outputs_played {config} {arrivals} p = outputs_asked (has_none arrivals) p.first p.turns p.after

-- The frames of all that the events of a script wrote. The disk didn't fail, and no send was lost.
pub record Transcript (config : Config) (arrivals : List Arrival) (printed : List ℕ) : Type 0 where
  pub plays : Plays config arrivals
  pub disk : plays.after.out.disk ≡ 0
  pub lost : plays.after.out.lost ≡ 0
  pub printed_is : printed ≡ frames_of (outputs_played plays)

-- The frames of what the first of a script's events wrote, however many of them. No send of these was
-- lost. All events were taken to their end, whether or not the disk failed or a later send was lost.
pub record TranscriptFront (config : Config) (arrivals : List Arrival) (printed : List ℕ)
    : Type 0 where
  pub plays : Plays config arrivals
  pub first : FirstFrames (outputs_played plays) printed

-- The same by a function, in which neither an allocation nor a send nor the disk fails.

-- A fresh world over this archive.
abbrev pub fresh_world : Archive → NodeState
fresh_world a = record {
  standing = standing a None;
  session = λ c. None;
  count = 0;
  out = outer (λ c. Some []) (λ c. Some 0) 0 0 (λ c. None);
}

-- The frames of these events from a world, each taken to its end by the rules, where it was asked for
-- one more after them or not.
abbrev pub plain_frames : Bool → List Arrival → NodeState → List ℕ
plain_frames none arrivals w =
    frames_of (outputs_asked none w (plain_turns arrivals w) (last_world w (plain_turns arrivals w)))

-- What a script prints over an empty archive with these settings, by the rules.
abbrev pub plain_transcript : Config → List Arrival → List ℕ
plain_transcript config arrivals =
    plain_frames (has_none arrivals) (to_stop arrivals) (fresh_world (empty_archive config))
