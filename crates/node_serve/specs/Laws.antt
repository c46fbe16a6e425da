-- The laws of events that are served: the count of open sessions, and what they do by the rules.
use Rattle.std.specs.Prelude.{◌≡◌, ◌≤◌, ◌<◌, ℕ, Bool, List, [], ◌∷◌, false}
use Rattle.edge_io.specs.Scripts.{Arrival}
use Rattle.edge_io.specs.declared.events.What.{What}
use Rattle.edge_io.specs.declared.events.What.TheVariants as what
use Rattle.node_serve.specs.Plain.{CountsSessions, PlainServed, plain_turns, last_world}
use Rattle.node_serve.specs.Turns.{Turn, Acted, Served}
use Rattle.node_serve.specs.Suiting.{ClientsSuit}
use Rattle.node_serve.specs.Updates.{idles_if, connection_limit, EachBelow, UpdateAt, UpdatedUnless, AllTold}
use Rattle.node_serve.specs.World.{NodeState, open_below}
use Rattle.arch_base.specs.Moments.{last_moment}
use Rattle.arch_model.specs.Standing.{LastKnown}

-- The connection of an event has a number below the given one.
abbrev pub HasConnectionBelow : ℕ → What → Type 0
HasConnectionBelow n (what.Opened c door) = c < n
HasConnectionBelow n (what.Bytes c len) = c < n
HasConnectionBelow n (what.Ended c) = c < n
HasConnectionBelow n what.Quiet = Unit {0}
HasConnectionBelow n what.Stop = Unit {0}

-- So have those of all events.
abbrev pub AreBelow : ℕ → List Arrival → Type 0
AreBelow n [] = Unit {0}
AreBelow n (e ∷ es) = HasConnectionBelow n e.0.what × AreBelow n es

-- No session of a connection with a number from the given one on idles.
abbrev pub NoneIdlesFrom : ℕ → NodeState → Type 0
NoneIdlesFrom n w = (c : ℕ) → n ≤ c → idles_if (w.session c) ≡ false

-- While events are served, the count of a world stays the number of connections that have an open
-- session.
abbrev pub CountsOpen : Type 0
CountsOpen = (n : ℕ) (es : List Arrival) (w : NodeState) (ts : List Turn) (v : NodeState)
    → AreBelow n es → NoneIdlesFrom n w → Served es w ts v → w.count ≡ open_below n w.session
    → v.count ≡ open_below n v.session

-- The acts of an event, and updates, leave an archive that suits what clients know.
pub record GoOnSuiting : Type 0 where
  pub acts : (e : Arrival) (w : NodeState) (passed : List LastKnown) (v : NodeState)
      → e.0.moment ≤ last_moment → Acted e w passed v → ClientsSuit w → ClientsSuit v
  pub updates : (stops : Bool) (w : NodeState) (reopened : List LastKnown) (v : NodeState)
      → UpdatedUnless stops w reopened v → ClientsSuit w → ClientsSuit v

-- An update after an update says nothing: where no session that idles has more to be told, to do nothing is
-- to give each its update.
pub record UpdatesOnce : Type 0 where
  -- After updates none has more to be told.
  pub told : (w v : NodeState) → EachBelow UpdateAt connection_limit w v → AllTold v
  -- Then they may be left out.
  pub nothing : (w : NodeState) → AllTold w → EachBelow UpdateAt connection_limit w w

-- The plain function of events is one of the ways in which they may be served: the one in which each
-- act goes by the rules and all its words are taken.
pub record PlainLaws : Type 0 where
  -- It is such a way,
  pub made : (es : List Arrival) (w : NodeState) → CountsSessions w
      → PlainServed es w (plain_turns es w) (last_world w (plain_turns es w))
  -- and no other is.
  pub only : (es : List Arrival) (w : NodeState) (ts : List Turn) (v : NodeState) → PlainServed es w ts v
      → (ts ≡ plain_turns es w) × (v ≡ last_world w ts)
  -- Such a way is one of those that the rules of all acts allow.
  pub served : (es : List Arrival) (w : NodeState) (ts : List Turn) (v : NodeState) → PlainServed es w ts v
      → Served es w ts v
  -- In it the disk doesn't fail, and no send is lost.
  pub unfailed : (es : List Arrival) (w : NodeState) (ts : List Turn) (v : NodeState)
      → PlainServed es w ts v → (v.out.disk ≡ w.out.disk) × (v.out.lost ≡ w.out.lost)

-- So the plain function of events serves them, without a failure.
abbrev pub PlainIsServed : Type 0
PlainIsServed = (es : List Arrival) (w : NodeState) → CountsSessions w
    → Served es w (plain_turns es w) (last_world w (plain_turns es w))
    × ((last_world w (plain_turns es w)).out.disk ≡ w.out.disk)
    × ((last_world w (plain_turns es w)).out.lost ≡ w.out.lost)
