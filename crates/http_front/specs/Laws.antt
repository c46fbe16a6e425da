-- The answers to a connection for pages do not depend on how its bytes are cut.
use Rattle.std.specs.Prelude.{◌≡◌, ◌<◌, ◌≤◌, ◌+◌, ◌↔◌, ℕ, List, ◌++◌, length, codes}
use Rattle.line_door.specs.Cuts.{DoorLaws}
use Rattle.http_front.specs.Fronts.{Whole, Long, Partial, front}
use Rattle.http_front.specs.Door.{said, has_request, with_piece}

-- The bytes start with CR LF CR LF at an offset.
abbrev pub HeadEndsAt : List ℕ → ℕ → Type 0
HeadEndsAt bytes n = (front : List ℕ) × (rest : List ℕ) × (length front ≡ n)
    × (bytes ≡ front ++ codes "\r\n\r\n" ++ rest)

-- The bytes are a head and the bytes after it: the head ends with the first CR LF CR LF, and has at
-- most `limit` bytes.
pub record IsWhole (limit : ℕ) (bytes head rest : List ℕ) : Type 0 where
  pub joined : bytes ≡ head ++ rest
  pub ends : (n : ℕ) × (HeadEndsAt bytes n) × (length head ≡ n + 4)
      × ((m : ℕ) → m < n → HeadEndsAt bytes m → ⊥)
  pub short : length head ≤ limit

-- What the head at the front is, in terms of the bytes alone, and how it changes when more bytes come.
pub record FrontLaw : Type 0 where
  pub whole : (limit : ℕ) (bytes head rest : List ℕ)
      → front limit bytes ≡ Whole head rest ↔ IsWhole limit bytes head rest
  -- A part has fewer bytes than the limit, and no CR LF CR LF.
  pub partial : (limit : ℕ) (bytes : List ℕ) → front limit bytes ≡ Partial
      ↔ ((n : ℕ) → HeadEndsAt bytes n → ⊥) × (length bytes < limit)
  pub goes_on : (limit : ℕ) (bytes more head rest : List ℕ) → front limit bytes ≡ Whole head rest
      → front limit (bytes ++ more) ≡ Whole head (rest ++ more)
  pub stays_long : (limit : ℕ) (bytes more : List ℕ) → front limit bytes ≡ Long
      → front limit (bytes ++ more) ≡ Long

-- However the bytes are cut, the door says and leaves the same. The acts of one piece and then of
-- another are acts of both, even if allocations, the disk or sends fail.
pub record HttpLaws : Type 0 where
  pub door : (moment : ℕ) → DoorLaws (said moment) has_request with_piece length
  pub front : FrontLaw
