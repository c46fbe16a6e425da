-- What stands at the front of the bytes of a reply (RFC 9112, sections 2.1 and 4).
use Rattle.std.specs.Prelude.{◌<◌, ◌≤◌, ℕ, List, length, take}
use Rattle.httparse.specs.Grammar.{ResponseHead, print_response, ReadsResponse, HasNoResponse, NeverHasResponse, MayBecomeResponse}
use Rattle.httparse.specs.Spans.{ResponseExceeds, ResponseOverflows}

-- The bytes are a head of HTTP/1.0 or HTTP/1.1, of at most 16,384 bytes and 128 fields, and then the
-- rest.
pub record HasReplyHead (bytes : List ℕ) (head : ResponseHead) (rest : List ℕ) : Type 0 where
  pub reads : ReadsResponse bytes head rest
  pub short : length (print_response head) ≤ 16384
  pub few : length head.fields ≤ 128

-- The bytes are fewer than 16,384, and no head is whole in them. With some bytes more one is.
pub record BeginsReplyHead (bytes : List ℕ) : Type 0 where
  pub short : length bytes < 16384
  pub none : HasNoResponse bytes
  pub part : MayBecomeResponse bytes

-- No head is whole in the first 16,384 bytes, and so many came.
pub record HasLongHead (bytes : List ℕ) : Type 0 where
  pub long : 16384 ≤ length bytes
  pub none : HasNoResponse (take 16384 bytes)

-- The first 16,384 bytes start with more than 128 fields, and with no head of fewer, whatever comes.
pub record HasManyFields (bytes : List ℕ) : Type 0 where
  pub many : ResponseExceeds 128 (take 16384 bytes)
  pub none : ResponseOverflows 128 (take 16384 bytes)

-- What stands at the front: a head and the bytes after it, the first bytes of a head, bytes with which
-- no head starts, a head that is too long, or one with too many fields.
pub data Front : Type 0 where
  Headed : ResponseHead → List ℕ → Front
  Begun : Front
  Headless : Front
  Long : Front
  Crowded : Front

-- This stands at the front of the bytes.
abbrev pub IsFront : List ℕ → Front → Type 0
IsFront bytes (Headed head rest) = HasReplyHead bytes head rest
IsFront bytes Begun = BeginsReplyHead bytes
IsFront bytes Headless = NeverHasResponse (take 16384 bytes)
IsFront bytes Long = HasLongHead bytes
IsFront bytes Crowded = HasManyFields bytes
