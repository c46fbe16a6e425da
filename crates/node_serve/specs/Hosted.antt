-- Turns and serving, said of the keeper and of the host.
use Rattle.std.specs.Prelude.{ℕ, Bool}
use Rattle.arch_model.specs.Keeping.{Keeper}
use Rattle.edge_io.specs.declared.host.Host.{Ghosts as Host}
use Rattle.edge_io.specs.Hosts.{SameEvents, SameElsewhere}
use Rattle.edge_io.specs.Scripts.{Arrival}
use Rattle.node_serve.specs.declared.serving.ServeEnd.{ServeEnd}
use Rattle.node_serve.specs.declared.serving.Taken.{Taken}
use Rattle.node_serve.specs.Nodes.{Serving, Stage, stage, event_stages, DoesActs, GivesUpdates, ActsAnyway, UpdatesAnyway, TurnsBy, ServesTo, TakesOne, places_in}
use Rattle.node_serve.specs.World.{at_host}

-- No event was given, and the record of the outputs at each event is as before.
abbrev pub EventsStay : {H : Type 0} → Host H → H → H → Type 0
EventsStay h i j = SameEvents h.left h.given h.recorded h.faults i j

-- Nothing but the bytes of one connection changed, and the count of lost calls.
abbrev pub ElsewhereStays : {H : Type 0} → Host H → ℕ → H → H → Type 0
ElsewhereStays h conn i j =
    SameElsewhere h.left h.given h.recorded h.faults h.taken h.closings h.closed_at conn i j

-- A keeper, and a host.
module _ {K H : Type 0} (k : Keeper K) (h : Host H) where
  -- A node took the acts of an event, and its keeper matches what they leave.
  abbrev pub ActsAt : Arrival → Serving K → H → Serving K → H → Type 0
  ActsAt arrival old i new j = DoesActs k arrival old (at_host h i (k.faults old.keep)) new
      (at_host h j (k.faults new.keep))

  -- Whatever the keeper holds, the acts of an event changed nothing of other connections.
  abbrev pub ActsAnywayAt : Arrival → Serving K → H → Serving K → H → Type 0
  ActsAnywayAt arrival old i new j = ActsAnyway arrival old (at_host h i (k.faults old.keep)) new
      (at_host h j (k.faults new.keep))

  -- A node gave the updates after an event, unless it is a stop, and its keeper matches what they leave.
  abbrev pub UpdatesAt : Bool → Serving K → H → Serving K → H → Type 0
  UpdatesAt stops old i new j = GivesUpdates k stops old (at_host h i (k.faults old.keep)) new
      (at_host h j (k.faults new.keep))

  -- Whatever the keeper holds, the updates changed nothing of sessions that don't idle.
  abbrev pub UpdatesAnywayAt : Bool → Serving K → H → Serving K → H → Type 0
  UpdatesAnywayAt stops old i new j = UpdatesAnyway stops (places_in old)
      (at_host h i (k.faults old.keep)) (places_in new) (at_host h j (k.faults new.keep))

  -- A node and a host as a stage, where the disk's count of faults is the keeper's.
  abbrev pub stage_at : Serving K → H → Stage K
  stage_at node host = stage node (at_host h host (k.faults node.keep))

  -- A node took an event to its end.
  abbrev pub TurnsAt : Arrival → Serving K → H → Serving K → H → Type 0
  TurnsAt arrival old i new j = (acted : Stage K)
      × TurnsBy k arrival (stage_at old i) (event_stages acted (stage_at new j))

  -- A node served the events that a host gave.
  abbrev pub ServesAt : ServeEnd → ℕ → Serving K → H → Serving K → H → Type 0
  ServesAt end turns old i new j = ServesTo k end turns old (at_host h i (k.faults old.keep)) new
      (at_host h j (k.faults new.keep)) (h.given i) (h.given j) (h.left i) (h.left j) (h.faults i)
      (h.faults j) (h.recorded i) (h.recorded j)

  -- An event was taken from the host and to its end, or none was.
  abbrev pub TakesAt : Taken → Serving K → H → Serving K → H → Type 0
  TakesAt taken old i new j = TakesOne k taken old (at_host h i (k.faults old.keep)) new
      (at_host h j (k.faults new.keep)) (h.given i) (h.given j) (h.left i) (h.left j) (h.faults i)
      (h.faults j) (h.recorded i) (h.recorded j)
