-- Private: the tag at the front of a command, read without memory (RFC 3501, section 9, tag).
use Rattle.std.specs.Prelude.{◌≡◌, ℕ, Bool, true, false, ◌&&◌, List, [], ◌∷◌, take, drop, is_some}
use Rattle.std.specs.List.{prefix_len}
use Rattle.imap_words.specs.Kinds.{is_tag_byte}
use Rattle.imap_words.specs.Reading.{byte_at}
use Rattle.imap_commands.specs.Laws.{ends_tag}

-- A line feed comes next.
abbrev pub starts_with_feed : List ℕ → Bool
starts_with_feed octets = is_some (byte_at 10 octets)

-- There is an octet.
abbrev pub has_octet : List ℕ → Bool
has_octet [] = false
has_octet (b ∷ bs) = true

-- A tag that has these octets after it is readable: it has an octet, and a space or a line end follows.
abbrev pub is_readable : List ℕ → List ℕ → Bool
is_readable tag behind = has_octet tag && ends_tag behind

-- The octets are those that may be a tag, as many as come first, and then others.
pub record DividesTag (octets tag behind : List ℕ) : Type 0 where
  pub tag_is : tag ≡ take (prefix_len is_tag_byte octets) octets
  pub behind_is : behind ≡ drop (prefix_len is_tag_byte octets) octets
