-- How many texts the control door reads at most to answer the bytes of a session.
use Rattle.std.specs.Prelude.{◌≡◌, ◌+◌, ℕ, zero, suc, Bool, true, false, List, ◌++◌, length, drop, if◌then◌else◌}
use Rattle.disk_model.specs.Sizes.{epoch_count}
use Rattle.arch_model.specs.Shelves.{ReadsUpTo}
use Rattle.control_door.specs.Requests.{Request, Delivers, Shows, Removes, Purges, Edits, Lists, Reindexes, Quits, Exceeds, Ahead, Asked, Unfinished, ahead, is_request}
use Rattle.control_door.specs.declared.session.Act.{Act}
use Rattle.control_door.specs.declared.session.Act.TheVariants.{Opened, Went, Kept, Closed}

-- What is asked of a ready keeper: at most so many reads of the disk, after which it is still ready;
-- or at most so many, the last of them for a command, after which it may have to be reopened; or
-- nothing bounds them.
pub data Demand : Type 0 where
  Reads : ℕ → Demand
  Changes : ℕ → Demand
  Unbounded : Demand

-- What a request asks: one read for a text, one for each epoch of the list, and one for a delivery
-- and a removal. A purge and an edit read what they write anew, and a reindexing reads all. Any other
-- request reads nothing.
abbrev pub request_asks : Request → Demand
request_asks (Delivers message) = Changes 1
request_asks (Shows number) = Reads 1
request_asks (Removes number) = Changes 1
request_asks (Purges number) = Unbounded
request_asks (Edits number message) = Unbounded
request_asks Lists = Reads epoch_count
request_asks Reindexes = Unbounded
request_asks other = Reads 0

-- The session is closed after this request.
abbrev pub closes_session : Request → Bool
closes_session Quits = true
closes_session Exceeds = true
closes_session _ = false

-- What a request asks, and then, if another one is whole, what the bytes after it ask. Before that
-- one the archive is reopened, which reads nothing while the keeper is ready.
abbrev pub asks_then : Demand → Bool → Demand → Demand
asks_then (Reads m) another (Reads n) = Reads (m + n)
asks_then (Reads m) another (Changes n) = Changes (m + n)
asks_then (Reads m) another Unbounded = Unbounded
asks_then (Changes m) false more = Changes m
asks_then (Changes m) true more = Unbounded
asks_then Unbounded another more = Unbounded

-- What the front asks, and what the bytes after it ask.
abbrev pub asks_at : (List ℕ → Demand) → Ahead → Demand
asks_at more (Asked request rest) = if closes_session request then request_asks request
    else asks_then (request_asks request) (is_request rest) (more rest)
asks_at more Unfinished = Reads 0

-- What up to `n` requests at the front ask.
abbrev pub asks_from : ℕ → List ℕ → Demand
asks_from zero bytes = Reads 0
asks_from (suc n) bytes = asks_at (asks_from n) (ahead bytes)

-- What all whole requests at the front ask, in order, up to one that closes the session. Each has a
-- byte, so their number is limited by that of the bytes.
unfoldable pub asks_for : List ℕ → Demand
asks_for bytes = asks_from (suc (length bytes)) bytes

-- A ready keeper read no more than is asked of it, and is ready after it if nothing asks for a change.
abbrev pub Meets : Demand → Bool → ℕ → ℕ → Type 0
Meets (Reads most) ready before now = (ready ≡ true) × ReadsUpTo most before now
Meets (Changes most) ready before now = ReadsUpTo most before now
Meets Unbounded ready before now = Unit {0}

-- One act at a ready keeper, given whether the keeper is ready after it: a reopening, which does
-- nothing; or a request that took `n` bytes of the piece; or the keeping of the piece; or the close.
abbrev pub ControlActReads : List ℕ → List ℕ → Act → List ℕ → Bool → ℕ → ℕ → Type 0
ControlActReads old piece Opened new ready before now = (ready ≡ true) × (now ≡ before)
ControlActReads old piece (Went n) new ready before now = (request : Request)
    × (asks_for (old ++ piece) ≡ asks_then (request_asks request) (is_request (new ++ drop n piece))
    (asks_for (new ++ drop n piece))) × Meets (request_asks request) ready before now
ControlActReads old piece Kept new ready before now = (ready ≡ true) × (now ≡ before)
ControlActReads old piece Closed new ready before now = Meets (asks_for (old ++ piece)) ready before now

-- One act on bytes without a whole request reads nothing.
abbrev pub IsRest : Act → ℕ → ℕ → Type 0
IsRest Opened before now = ⊥
IsRest (Went n) before now = ⊥
IsRest Kept before now = now ≡ before
IsRest Closed before now = now ≡ before
