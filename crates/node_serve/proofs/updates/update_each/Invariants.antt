use Rattle.std.proofs.Common.{◌≤◌, ◌-◌, ℕ, None}
use Rattle.arch_model.specs.Archives.{Archive}
use Rattle.arch_model.specs.Standing.{LastKnown, standing}
use Rattle.node_serve.specs.Hosted.{EventsStay}
use Rattle.node_serve.specs.Nodes.{AroundAt, places_of, session_of, world_of}
use Rattle.node_serve.specs.Suiting.{SessionSuitsIf}
use Rattle.node_serve.specs.Updates.{EachBelow, UpdateAt, connection_limit}
use Rattle.node_serve.specs.World.{at_host}
use Rattle.node_serve.proofs.updates.update_each.Given as goal

abbrev pub invariant-loop-conn : goal.invariant-loop-conn
invariant-loop-conn g l = record {
  updated :
      (a : Archive) (disk : ℕ) → g.S.Shelf.holds l.shelf a
      → ((c : ℕ) → SessionSuitsIf a (session_of l.fn.sessions.entries c))
      → EachBelow UpdateAt l.from
      (world_of (standing a None) (places_of l.fn.sessions.entries) (at_host g.H.Host l.fn.host disk))
      (world_of (standing a None) (places_of l.sessions.entries) (at_host g.H.Host l.host disk));
  anyway :
      (s : LastKnown) (disk : ℕ) → EachBelow AroundAt l.from
      (world_of s (places_of l.fn.sessions.entries) (at_host g.H.Host l.fn.host disk))
      (world_of s (places_of l.sessions.entries) (at_host g.H.Host l.host disk));
  events : EventsStay g.H.Host l.fn.host l.host;
  low : l.from ≤ connection_limit;
}

abbrev pub decreases-loop-conn : goal.decreases-loop-conn
decreases-loop-conn g l = connection_limit - l.from
