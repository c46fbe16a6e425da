-- The peer in memory.
use Rattle.std.specs.Prelude.{◌≡◌, ℕ, List, [], ◌∷◌, ◌++◌, drop, Option, Some, None, Result, Ok, Err}
use Rattle.edge_io.specs.Listed.{raised}
use Rattle.edge_io.specs.declared.peer.Reply.{Reply}
use Rattle.edge_io.specs.declared.peer.PeerRefusal.{PeerRefusal}
use Rattle.edge_io.specs.declared.peer.PeerRefusal.TheVariants.{Fault, NoMemory}

-- The state of a peer: its answers to come, of which None is a fault, the paths that it was asked for,
-- and the counts of faults and of calls that ran out of memory.
pub record Peering : Type 0 where
  pub coming : List (Option Reply)
  pub asked : List (List ℕ)
  pub faults : ℕ
  pub starved : ℕ

-- The replies among answers. A None is no reply.
abbrev pub replies_of : List (Option Reply) → List Reply
replies_of [] = []
replies_of (None ∷ answers) = replies_of answers
replies_of (Some reply ∷ answers) = reply ∷ replies_of answers

-- The first of the answers, if it is a reply. At the end of the list there is none.
abbrev pub next_reply : List (Option Reply) → Option Reply
next_reply [] = None
next_reply (answer ∷ answers) = answer

-- The state after a call that asked for a path: the first answer is removed, whatever it was.
abbrev pub asked_for : List ℕ → Peering → Peering
asked_for path s = record s { coming = drop 1 s.coming; asked = s.asked ++ path ∷ [] }

-- The state after a fault, which asked for the path, too.
abbrev pub failed_get : List ℕ → Peering → Peering
failed_get path s = record (asked_for path s) { faults = raised s.faults }

-- The state after a call that ran out of memory, which asked for nothing.
abbrev pub starved_get : Peering → Peering
starved_get s = record s { starved = raised s.starved }

-- A call gives the next reply, and fails if there is none: None is next, or no answer is left. A call
-- that runs out of memory does so before it asks.
abbrev pub PeerGets : Result Reply PeerRefusal → List ℕ → Peering → Peering → Type 0
PeerGets (Ok reply) path s s' = (next_reply s.coming ≡ Some reply) × (s' ≡ asked_for path s)
PeerGets (Err Fault) path s s' = (next_reply s.coming ≡ None) × (s' ≡ failed_get path s)
PeerGets (Err NoMemory) path s s' = s' ≡ starved_get s
