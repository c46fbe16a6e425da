-- What an act says, by its form: the session continues, it is closed, or the words are streamed.
use Rattle.std.specs.Prelude.{ℕ, List, Some, None, true, false}
use Rattle.line_door.specs.Acts.{Said, Departure, Plain, Memory, Disk, Newer}

-- These words, and the session continues as `h`.
abbrev pub says : {H A : Type 0} → A → H → List ℕ → Said H A
says a h words = record { next = Some h; words = words; streamed = false; after = a }

-- These words, and the session is closed.
abbrev pub closes : {H A : Type 0} → A → List ℕ → Said H A
closes a words = record { next = None; words = words; streamed = false; after = a }

-- These words as a streamed reply, which may stop early, and the session continues as `h`.
abbrev pub streams : {H A : Type 0} → A → H → List ℕ → Said H A
streams a h words = record { next = Some h; words = words; streamed = true; after = a }

-- What is said in each way of an act without a reopening, where `Newer` is the plain way.
abbrev pub in_ways : {H A : Type 0} → Said H A → Said H A → Said H A → Departure → Said H A
in_ways plain memory disk Plain = plain
in_ways plain memory disk Memory = memory
in_ways plain memory disk Disk = disk
in_ways plain memory disk Newer = plain
