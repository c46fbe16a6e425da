-- The wire form of a text: its lines end as they are sent (RFC 5321, section 2.3.8).
use Rattle.std.specs.Prelude.{ℕ, Bool, ◌||◌, ◌==◌, List, [], ◌∷◌, if◌then◌else◌, count_by}
use Rattle.std.specs.List.{flat_map}

-- What is sent for a byte: a carriage return and a line feed for a line feed, a space for any other
-- carriage return and for a NUL, and each other byte unchanged.
abbrev pub sent : ℕ → List ℕ
sent b = if b == 10 then 13 ∷ 10 ∷ [] else if b == 13 || b == 0 then 32 ∷ [] else b ∷ []

-- The wire form of a text.
unfoldable pub wire_of : List ℕ → List ℕ
wire_of text = flat_map sent text

-- The byte is a line feed.
abbrev pub is_feed : ℕ → Bool
is_feed b = b == 10

-- The number of line feeds of a text.
abbrev pub feeds_of : List ℕ → ℕ
feeds_of text = count_by is_feed text
