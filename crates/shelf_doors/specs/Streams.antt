-- A streamed reply over a shelf, whose words wait, and which stops when a text isn't read.
use Rattle.std.specs.Prelude.{◌≡◌, ◌≤◌, ◌⊎◌, ℕ, Bool, true, false, List, Result, Ok, Err, is_ok}
use Rattle.arch_base.specs.Counts.{Rose}
use Rattle.arch_model.specs.Next.{continues}
use Rattle.arch_model.specs.declared.next.Next.{Next}
use Rattle.arch_model.specs.declared.text_refusal.TextRefusal.{TextRefusal}
use Rattle.arch_model.specs.declared.text_refusal.TextRefusal.TheVariants as reading
use Rattle.edge_io.specs.Phrases.{Says}
use Rattle.edge_io.specs.declared.sink.SinkFault.{SinkFault}
use Rattle.line_door.specs.Acts.{ConnectionState, Said, Departure, Plain, Memory, Disk, held_if}
use Rattle.wire_replies.specs.Waits.{Waits}
use Rattle.shelf_doors.specs.Refusals.{SaysWhy}
use Rattle.shelf_doors.specs.declared.streamed.StreamStop.{StreamStop}
use Rattle.shelf_doors.specs.declared.streamed.StreamStop.TheVariants as stop

-- These words, after which the session continues as `h` if it `goes` on.
abbrev pub says_if : {H A : Type 0} → A → Bool → H → Bool → List ℕ → Said H A
says_if a goes h streamed words =
    record { next = held_if goes h; words = words; streamed = streamed; after = a }

-- An act is a streamed reply, after which the session goes on as `h` if it `goes` on. Before its first
-- word is said, it may say instead by a door's lines that memory ran out; or, if it reads texts, that the
-- disk failed. The session then stays `h` if it `stays`.
pub record StreamWays {H A : Type 0} (words : Departure → Said H A) (a : A) (h : H) (goes stays : Bool)
    (reply : List ℕ) (line : TextRefusal → List ℕ) (reads : Bool)
    : Type 0 where
  pub by_rules : words Plain ≡ says_if a goes h true reply
  pub no_memory : words Memory ≡ says_if a stays h false (line reading.NoMemory)
  pub no_disk : reads ≡ true → words Disk ≡ says_if a stays h false (line reading.DiskFault)
  pub after : (way : Departure) → a ≡ (words way).after

-- Words were appended to those that wait, and no fault of the disk was met.
abbrev pub Given : List ℕ → List ℕ → ConnectionState → Result Unit SinkFault → List ℕ
    → ConnectionState → Type 0
Given words old i sent new j =
    (j.disk ≡ i.disk) × Waits words old i.out i.lost new j.out j.lost sent

-- A text wasn't read, and nothing was said since.
abbrev pub Missed : List ℕ → ConnectionState → List ℕ → ConnectionState → Type 0
Missed old i new j = (new ≡ old) × (j.out ≡ i.out) × (j.lost ≡ i.lost) × (i.disk ≤ j.disk)
    × (Rose i.disk j.disk ⊎ (j.disk ≡ i.disk))

-- What became of the next part of a reply: it was appended to the words that wait; or it wasn't made,
-- which was said by a door's lines if nothing was said before; or a write failed.
abbrev pub StreamsNext : (TextRefusal → List ℕ) → Bool → List ℕ → Bool → List ℕ → ConnectionState
    → Result Unit StreamStop → List ℕ → ConnectionState → Type 0
StreamsNext line reads words begun old i (Ok done) new j = Given words old i (Ok tt) new j
StreamsNext line reads words begun old i (Err (stop.Unread sent)) new j =
    (begun ≡ false) × (new ≡ old) × SaysWhy reads line i sent j
StreamsNext line reads words begun old i (Err stop.Short) new j = (begun ≡ true) × Missed old i new j
StreamsNext line reads words begun old i (Err stop.Lost) new j =
    (fault : SinkFault) × Given words old i (Err fault) new j

-- How the reply ends where it stops: the session continues after a word that was said in its place, and
-- else it is closed. What waits is written where other words were said.
abbrev pub EndsAt : StreamStop → List ℕ → ConnectionState → Next → ConnectionState → Type 0
EndsAt (stop.Unread sent) waiting i next j = (continues next ≡ is_ok sent) × (j ≡ i)
EndsAt stop.Short waiting i next j = (continues next ≡ false) × (j.disk ≡ i.disk)
    × ((sent : Result Unit SinkFault) × Says waiting i.out i.lost j.out j.lost sent)
EndsAt stop.Lost waiting i next j = (continues next ≡ false) × (j ≡ i)
