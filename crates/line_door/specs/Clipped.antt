-- What is kept of bytes at a door that skips lines that are too long. Of a line that is too long, only
-- that it is so matters.
use Rattle.std.specs.Prelude.{◌≡◌, ◌==◌, ℕ, zero, suc, if◌then◌else◌, List, [], ◌∷◌, ◌++◌}
use Rattle.line_door.specs.Skipping.{Taken, Skipped, Unended, skipping_front, held_of}

-- The bytes, where `room` more octets of the first line are kept, and `limit` octets of each later
-- line. Line feeds are kept.
abbrev pub clipped_from : ℕ → ℕ → List ℕ → List ℕ
clipped_from limit room [] = []
clipped_from limit zero (b ∷ bs) =
    if b == 10 then b ∷ clipped_from limit limit bs else clipped_from limit zero bs
clipped_from limit (suc room) (b ∷ bs) =
    if b == 10 then b ∷ clipped_from limit limit bs else b ∷ clipped_from limit room bs

-- The bytes, with each line cut to its first `limit` octets. A line with fewer is whole, and one that
-- is too long stays so.
unfoldable pub clipped : ℕ → List ℕ → List ℕ
clipped limit bytes = clipped_from limit limit bytes

-- The greatest length of a line with its line end, in octets (RFC 3977, section 3.1).
abbrev pub longest_line : ℕ
longest_line = 512

-- The law of what is kept: it goes on as all the bytes would.
pub record ClippedLaw : Type 0 where
  -- A line that has ended is at the front of what is kept exactly as it is at the front of the bytes,
  -- and what is kept of the rest follows it.
  pub taken : (limit : ℕ) (bytes line rest : List ℕ)
      → skipping_front limit bytes ≡ Taken line rest
      → skipping_front limit (clipped limit bytes) ≡ Taken line (clipped limit rest)
  pub skipped : (limit : ℕ) (bytes rest : List ℕ) → skipping_front limit bytes ≡ Skipped rest
      → skipping_front limit (clipped limit bytes) ≡ Skipped (clipped limit rest)
  -- Of a part of a line its first octets are kept, and they are a part of a line too.
  pub part : (limit : ℕ) (bytes : List ℕ) → skipping_front limit bytes ≡ Unended
      → clipped limit bytes ≡ held_of limit bytes
  pub unended : (limit : ℕ) (bytes : List ℕ) → skipping_front limit bytes ≡ Unended
      → skipping_front limit (clipped limit bytes) ≡ Unended
  -- What is kept of a piece and then of the next is what is kept of both joined.
  pub again : (limit : ℕ) (bytes more : List ℕ)
      → clipped limit (clipped limit bytes ++ more) ≡ clipped limit (bytes ++ more)
