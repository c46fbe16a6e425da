-- What the line at the front is in terms of the bytes alone, and how it changes when more bytes
-- come.
use Rattle.std.specs.Prelude.{◌≡◌, ◌≢◌, ◌<◌, ◌↔◌, ℕ, List, [], ◌∷◌, ◌++◌, length, slice_index}
use Rattle.line_door.specs.Lines.{Whole, Long, Partial, front, content}

-- No byte is a line feed.
abbrev pub NoFeed : List ℕ → Type 0
NoFeed bytes = (k : ℕ) → k < length bytes → slice_index bytes k ≢ 10

-- The bytes start with this line and its line feed, which have at most `limit` octets together.
pub record IsFirstLine (limit : ℕ) (bytes line rest : List ℕ) : Type 0 where
  pub joined : bytes ≡ line ++ 10 ∷ rest
  pub single : NoFeed line
  pub short : length line < limit

-- The law of the line at the front.
pub record LineLaw : Type 0 where
  -- A whole line is at the front if and only if the bytes start with one. A part is there if and
  -- only if the bytes have no line feed and are fewer than `limit`.
  pub whole : (limit : ℕ) (bytes line rest : List ℕ)
      → front limit bytes ≡ Whole line rest ↔ IsFirstLine limit bytes line rest
  pub partial : (limit : ℕ) (bytes : List ℕ) → front limit bytes ≡ Partial ↔ NoFeed bytes
      × (length bytes < limit)
  -- More bytes leave a whole line, and a line that is too long, what it is.
  pub goes_on : (limit : ℕ) (bytes more line rest : List ℕ) → front limit bytes ≡ Whole line rest
      → front limit (bytes ++ more) ≡ Whole line (rest ++ more)
  pub stays_long : (limit : ℕ) (bytes more : List ℕ) → front limit bytes ≡ Long
      → front limit (bytes ++ more) ≡ Long
  -- The rest after a line is shorter than the bytes.
  pub shorter : (limit : ℕ) (bytes line rest : List ℕ) → front limit bytes ≡ Whole line rest
      → length rest < length bytes
  -- One carriage return is removed, and nothing else.
  pub content_cut : (line : List ℕ) → content (line ++ 13 ∷ []) ≡ line
  pub content_kept : (line : List ℕ) (b : ℕ) → b ≢ 13 → content (line ++ b ∷ []) ≡ line ++ b ∷ []
