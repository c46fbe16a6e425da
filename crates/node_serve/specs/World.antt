-- The world of a server, and what an act on one connection may do to it.
use Rattle.std.specs.Prelude.{◌≡◌, ◌+◌, ◌-◌, ℕ, zero, suc, List, Option, Some, None}
use Rattle.edge_io.specs.declared.host.Host.{Ghosts as Host}
use Rattle.edge_io.specs.Hosts.{OthersKept, one_more, closed_with}
use Rattle.line_door.specs.Acts.{ConnectionState, Said, Departure, Acts, outside}
use Rattle.arch_model.specs.Standing.{LastKnown}
use Rattle.node_serve.specs.declared.session.Session.{Session}

-- What connections took and how often each was closed, if that is told, the disk's count of faults,
-- the count of lost sends, and what each connection had taken when it was last closed, if told.
pub record HostState : Type 0 where
  pub taken : ℕ → Option (List ℕ)
  pub closings : ℕ → Option ℕ
  pub disk : ℕ
  pub lost : ℕ
  pub closed_at : ℕ → Option (List ℕ)

-- The outside of these five parts.
abbrev pub outer : (ℕ → Option (List ℕ)) → (ℕ → Option ℕ) → ℕ → ℕ → (ℕ → Option (List ℕ)) → HostState
outer taken closings disk lost closed_at = record {
  taken = taken;
  closings = closings;
  disk = disk;
  lost = lost;
  closed_at = closed_at;
}

-- The outside, where the disk has this count of faults.
abbrev pub with_disk : ℕ → HostState → HostState
with_disk disk o = outer o.taken o.closings disk o.lost o.closed_at

-- The outside of a node's turns at this host, where the disk has this count of faults.
abbrev pub at_host : {H : Type 0} → Host H → H → ℕ → HostState
at_host h host disk = outer (h.taken host) (h.closings host) disk (h.lost host) (h.closed_at host)

-- The archive, with the one in doubt, if any; the session of each connection, if it is open; how many
-- sessions are open; and the outside.
pub record NodeState : Type 0 where
  pub standing : LastKnown
  pub session : ℕ → Option Session
  pub count : ℕ
  pub out : HostState

-- The outside as the acts of one connection see it.
abbrev pub outside_at : ℕ → HostState → ConnectionState
outside_at c o = outside (o.taken c) o.disk o.lost

-- 1 for a session that is open, otherwise 0.
abbrev pub one_if : {T : Type 0} → Option T → ℕ
one_if None = 0
one_if (Some x) = 1

-- How many sessions of other connections are open.
abbrev pub others_open : ℕ → NodeState → ℕ
others_open c w = w.count - one_if (w.session c)

-- The closings of a connection, after one more if no session is left of it.
abbrev pub closed_if : Option Session → Option ℕ → Option ℕ
closed_if None n = one_more n
closed_if (Some start) n = n

-- What a connection had taken when it was last closed, after it was closed once more if no session is
-- left of it: what it has taken in all.
abbrev pub closed_at_if : Option Session → Option (List ℕ) → Option (List ℕ) → Option (List ℕ)
closed_at_if None taken before = closed_with taken before
closed_at_if (Some start) taken before = before

-- What an act on a connection leaves beside what it says there: the sessions and the outside of other
-- connections stay, the connection is closed if no session is left of it, after all that is said
-- there, and the count of open sessions is kept right.
pub record Around (c : ℕ) (w v : NodeState) : Type 0 where
  pub sessions : OthersKept c w.session v.session
  pub taken : OthersKept c w.out.taken v.out.taken
  pub closings : OthersKept c w.out.closings v.out.closings
  pub closed : v.out.closings c ≡ closed_if (v.session c) (w.out.closings c)
  pub count : v.count + one_if (w.session c) ≡ w.count + one_if (v.session c)
  pub closed_at : v.out.closed_at c
      ≡ closed_at_if (v.session c) (v.out.taken c) (w.out.closed_at c)
  pub closed_at_others : OthersKept c w.out.closed_at v.out.closed_at

-- One act on a connection, which says these words there.
pub record ActAt (c : ℕ) (words : Departure → Said Session LastKnown) (w v : NodeState) : Type 0 where
  pub acts : Acts words (outside_at c w.out) (v.session c) v.standing (outside_at c v.out)
  pub around : Around c w v

-- Nothing happened.
pub record Same (w v : NodeState) : Type 0 where
  pub standing : v.standing ≡ w.standing
  pub sessions : (c : ℕ) → v.session c ≡ w.session c
  pub count : v.count ≡ w.count
  pub out : v.out ≡ w.out

-- The session of a connection ended without a word, if it had one.
pub record EndedAt (c : ℕ) (w v : NodeState) : Type 0 where
  pub standing : v.standing ≡ w.standing
  pub gone : v.session c ≡ None
  pub sessions : OthersKept c w.session v.session
  pub count : v.count + one_if (w.session c) ≡ w.count
  pub out : v.out ≡ w.out

-- How many connections with numbers below the given one have an open session.
abbrev pub open_below : ℕ → (ℕ → Option Session) → ℕ
open_below zero session = 0
open_below (suc n) session = open_below n session + one_if (session n)
