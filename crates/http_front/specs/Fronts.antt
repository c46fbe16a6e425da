-- The head of a request at the front of a connection's bytes (RFC 9112, section 2.1).
use Rattle.std.specs.Prelude.{ℕ, ◌+◌, nat_le, nat_lt, Bool, true, false, List, [], ◌∷◌, length, take, drop, codes, Option, Some, None, if◌then◌else◌}
use Rattle.std.specs.Str.{bytes_eq}

-- The bytes start with the end of a line and an empty line: CR LF CR LF.
abbrev pub ends_here : List ℕ → Bool
ends_here bytes = bytes_eq (take 4 bytes) (codes "\r\n\r\n")

-- So many more, if there are some.
abbrev pub plus_len : ℕ → Option ℕ → Option ℕ
plus_len more None = None
plus_len more (Some len) = Some (more + len)

-- The number of bytes up to and with the first CR LF CR LF.
abbrev pub head_len : List ℕ → Option ℕ
head_len [] = None
head_len (b ∷ bs) = if ends_here (b ∷ bs) then Some 4 else plus_len 1 (head_len bs)

-- A whole head and the bytes after it; or a head that is too long; or a part of a head.
pub data HeadFront : Type 0 where
  Whole : List ℕ → List ℕ → HeadFront
  Long : HeadFront
  Partial : HeadFront

-- A head has at most `limit` bytes with its empty line. `limit` bytes without one are too many.
abbrev pub sized : ℕ → List ℕ → Option ℕ → HeadFront
sized limit bytes None = if nat_lt (length bytes) limit then Partial else Long
sized limit bytes (Some len) = if nat_le len limit then Whole (take len bytes) (drop len bytes) else Long

-- The head at the front of these bytes.
unfoldable pub front : ℕ → List ℕ → HeadFront
front limit bytes = sized limit bytes (head_len bytes)

-- The greatest length of a head with its empty line.
abbrev pub head_limit : ℕ
head_limit = 16384

-- The front is a whole head or one that is too long, and so is answered now.
abbrev pub is_whole : HeadFront → Bool
is_whole (Whole head rest) = true
is_whole Long = true
is_whole Partial = false
