-- One act of a session: it answers a request, or keeps a rest.
use Rattle.std.specs.Prelude.{◌≡◌, ◌≤◌, ◌<◌, ◌⊎◌, ℕ, List, length, take, Option, Some, None, Bool, true, false}
use Rattle.arch_base.specs.Counts.{Rose}
use Rattle.edge_io.specs.declared.sink.Sink.{Ghosts as Sink}
use Rattle.edge_io.specs.Taken.{plus}

-- The outside of a session: the bytes that the connection took, if it is told, the disk's count of
-- faults, and the count of lost sends.
pub record ConnectionState : Type 0 where
  pub out : Option (List ℕ)
  pub disk : ℕ
  pub lost : ℕ

-- The outside of these three parts.
abbrev pub outside : Option (List ℕ) → ℕ → ℕ → ConnectionState
outside out disk lost = record { out = out; disk = disk; lost = lost }

-- The outside of a session at this sink, where the disk has this count of faults.
abbrev pub at_sink : {O : Type 0} → Sink O → O → ℕ → ConnectionState
at_sink o out disk = outside (o.taken out) disk (o.faults out)

-- What an act says: the session after it (None if it is closed), the words, whether they are
-- streamed, and what requests read and change.
pub record Said (H A : Type 0) : Type 0 where
  pub next : Option H
  pub words : List ℕ
  pub streamed : Bool
  pub after : A

-- How an act goes: by the rules; out of memory, with the word for that; at a fault of the disk, with
-- its word; or, Newer, with what a reopening finds of what was in doubt. In place of either word a
-- streamed reply that is under way stops.
pub data Departure : Type 0 where
  Plain : Departure
  Memory : Departure
  Disk : Departure
  Newer : Departure

-- Why an act goes so, by the disk's count of faults before and after it: the count rises exactly in
-- the way of the disk. So no fault of the disk is told as out of memory, and none is passed over.
abbrev pub DepartureCause : Departure → ℕ → ℕ → Type 0
DepartureCause Plain before now = now ≡ before
DepartureCause Memory before now = now ≡ before
DepartureCause Disk before now = Rose before now
DepartureCause Newer before now = now ≡ before

-- The session if it continues, otherwise none.
abbrev pub held_if : {H : Type 0} → Bool → H → Option H
held_if true h = Some h
held_if false h = None

module _ {H A : Type 0} where
  -- All words reached the connection.
  pub record SaidWhole (s : Said H A) (i : ConnectionState) (held : Option H) (a : A) (j : ConnectionState)
      : Type 0 where
    pub held_is : held ≡ s.next
    pub after_is : a ≡ s.after
    pub out_is : j.out ≡ plus i.out s.words
    pub lost_kept : j.lost ≡ i.lost

  -- A send was lost: a prefix of the words reached the connection, and the session is closed. The
  -- request was carried out all the same.
  pub record SaidLost (s : Said H A) (i : ConnectionState) (held : Option H) (a : A) (j : ConnectionState)
      : Type 0 where
    pub lost_rose : Rose i.lost j.lost
    pub held_is : held ≡ None
    pub after_is : a ≡ s.after
    pub count : ℕ
    pub out_is : j.out ≡ plus i.out (take count s.words)

  -- A streamed reply stopped after a nonempty proper prefix, and the session is closed.
  pub record SaidShort (s : Said H A) (i : ConnectionState) (held : Option H) (a : A) (j : ConnectionState)
      : Type 0 where
    pub streamed : s.streamed ≡ true
    pub held_is : held ≡ None
    pub after_is : a ≡ s.after
    pub count : ℕ
    pub some : 0 < count
    pub proper : count < length s.words
    pub out_is : j.out ≡ plus i.out (take count s.words)

  -- The reply by the rules stopped short: memory ran out, or the disk failed, in the midst of it.
  abbrev pub StopsShort : (Departure → Said H A) → Departure → ConnectionState → Option H → A
      → ConnectionState → Type 0
  StopsShort words Plain i held a j = ⊥
  StopsShort words Memory i held a j = SaidShort (words Plain) i held a j
  StopsShort words Disk i held a j = SaidShort (words Plain) i held a j
  StopsShort words Newer i held a j = ⊥

  -- The words of a way were sent whole, or lost; or the reply by the rules stopped short.
  abbrev pub Sent : (Departure → Said H A) → Departure → ConnectionState → Option H → A
      → ConnectionState → Type 0
  Sent words way i held a j = SaidWhole (words way) i held a j
      ⊎ (SaidLost (words way) i held a j ⊎ StopsShort words way i held a j)

  -- One act, in one of its ways, for a cause in this act.
  pub record Acts (words : Departure → Said H A) (i : ConnectionState) (held : Option H) (a : A)
      (j : ConnectionState)
      : Type 0 where
    pub way : Departure
    pub cause : DepartureCause way i.disk j.disk
    pub disk_later : i.disk ≤ j.disk
    pub lost_later : i.lost ≤ j.lost
    pub sent : Sent words way i held a j

  -- One act by the rules, all of whose words reached the connection. The disk didn't fail.
  pub record PlainActs (s : Said H A) (i : ConnectionState) (held : Option H) (a : A) (j : ConnectionState)
      : Type 0 where
    pub disk_kept : j.disk ≡ i.disk
    pub whole : SaidWhole s i held a j
