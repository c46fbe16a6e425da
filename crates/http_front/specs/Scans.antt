-- How the code finds the end of a head, byte by byte.
use Rattle.std.specs.Prelude.{◌≡◌, ◌+◌, ◌<◌, ◌≤◌, ◌==◌, ℕ, List, [], ◌∷◌, ◌++◌, length, take, drop, Option, Some, None, if◌then◌else◌}
use Rattle.http_front.specs.Fronts.{Whole, Long, Partial, front, plus_len}
use Rattle.http_front.specs.declared.scan.Seen.{Seen}
use Rattle.http_front.specs.declared.scan.Seen.TheVariants.{Nothing, Return, Line, LineReturn}
use Rattle.http_front.specs.declared.scan.Ahead.{Ahead}
use Rattle.http_front.specs.declared.scan.Ahead.TheVariants as ahead

-- What is seen after a byte that starts a CR LF CR LF, or doesn't.
abbrev pub started : ℕ → Seen
started b = if b == 13 then Return else Nothing

-- What is seen after one more byte. None if CR LF CR LF is whole.
abbrev pub next_seen : Seen → ℕ → Option Seen
next_seen Nothing b = Some (started b)
next_seen Return b = if b == 10 then Some Line else Some (started b)
next_seen Line b = if b == 13 then Some LineReturn else Some Nothing
next_seen LineReturn b = if b == 10 then None else Some (started b)

-- The number of bytes that make CR LF CR LF whole, by what is seen after the first of them.
abbrev pub scan_by : Option Seen → (Seen → Option ℕ) → Option ℕ
scan_by None more = Some 1
scan_by (Some seen) more = plus_len 1 (more seen)

-- The number of bytes that make CR LF CR LF whole.
abbrev pub scan : Seen → List ℕ → Option ℕ
scan seen [] = None
scan seen (b ∷ bs) = scan_by (next_seen seen b) (λ (after : Seen). scan after bs)

-- What is seen after more bytes, by what is seen after the first of them.
abbrev pub seen_by : Option Seen → (Seen → Seen) → Seen
seen_by None more = Nothing
seen_by (Some seen) more = more seen

-- What is seen after bytes that don't make CR LF CR LF whole.
abbrev pub seen_after : Seen → List ℕ → Seen
seen_after seen [] = seen
seen_after seen (b ∷ bs) = seen_by (next_seen seen b) (λ (after : Seen). seen_after after bs)

-- What is held is a part of a head, and this is what is seen of its end.
pub record IsHeldHead (limit : ℕ) (held : List ℕ) (seen : Seen) : Type 0 where
  pub part : front limit held ≡ Partial
  pub mark : seen ≡ seen_after Nothing held

-- How a piece continues a part of a head: the head ends within the piece, or it is too long, or it
-- is still a part.
abbrev pub IsHeadAhead : ℕ → List ℕ → List ℕ → Ahead → Type 0
IsHeadAhead limit held piece (ahead.Head n) = (0 < n) × (n ≤ length piece) × (length held + n ≤ limit)
    × (front limit (held ++ piece) ≡ Whole (held ++ take n piece) (drop n piece))
IsHeadAhead limit held piece ahead.Long = front limit (held ++ piece) ≡ Long
IsHeadAhead limit held piece (ahead.More seen) = IsHeldHead limit (held ++ piece) seen
