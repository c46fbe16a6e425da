-- The parts of a command, and the octets that a connection holds of one (RFC 3501, sections 2.2, 4.3
-- and 7.5).
use Rattle.std.specs.Prelude.{◌==◌, ◌+◌, ◌-◌, ℕ, if◌then◌else◌, ◌&&◌, nat_le, nat_lt, List, [], ◌∷◌, ◌++◌, length, take, drop, slice_index, Option, Some, None, Bool, true, false}
use Rattle.std.specs.List.{list_all}
use Rattle.arch_base.specs.Decimals.{read_on}
use Rattle.line_door.specs.Lines.{first_line, content}

-- The greatest length of a command in octets. Octets that a literal announces count.
unfoldable pub most_octets : ℕ
most_octets = 16384

-- The text after the last `{` of an octet and the octets after it, by that of the latter.
abbrev pub later_brace : ℕ → List ℕ → Option (List ℕ) → Option (List ℕ)
later_brace b bs None = if b == 123 then Some bs else None
later_brace b bs (Some text) = Some text

-- The text after the last `{`, if there is one.
abbrev pub after_brace : List ℕ → Option (List ℕ)
after_brace [] = None
after_brace (b ∷ bs) = later_brace b bs (after_brace bs)

-- The text before its last octet, if that is `octet`, which isn't 0.
abbrev pub before_last : ℕ → List ℕ → Option (List ℕ)
before_last octet text = if slice_index text (length text - 1) == octet
    then Some (take (length text - 1) text) else None

-- The octet is a digit.
abbrev pub is_digit : ℕ → Bool
is_digit b = nat_le 48 b && nat_le b 57

-- The value of one or more digits, however great. Leading zeros are allowed.
abbrev pub value_of : Option (List ℕ) → Option ℕ
value_of None = None
value_of (Some digits) =
    if nat_lt 0 (length digits) && list_all is_digit digits then Some (read_on 0 digits) else None

-- The number that stands before a `}` at the end of the text after a brace.
abbrev pub number_after : Option (List ℕ) → Option ℕ
number_after None = None
number_after (Some text) = value_of (before_last 125 text)

-- The number of octets that a line announces: that of a literal `{n}` at its end (RFC 3501, section
-- 4.3). The line has no line feed, and one carriage return at its end is not a part of it.
abbrev pub announced : List ℕ → Option ℕ
announced line = number_after (after_brace (content line))

-- What the octets of a command start with: its last part; a part that announces so many octets; more
-- octets than a command may have, announced ones included; or a part that has not ended. The last
-- list of each is the octets that follow.
pub data PartFront : Type 0 where
  LastPart : List ℕ → List ℕ → PartFront
  LiteralPart : List ℕ → ℕ → List ℕ → PartFront
  ExcessPart : List ℕ → PartFront
  OpenPart : PartFront

-- A part by what its line announces, where the command has room for so many octets from this part on.
abbrev pub by_announced : ℕ → List ℕ → List ℕ → Option ℕ → PartFront
by_announced room part rest None = LastPart part rest
by_announced room part rest (Some n) =
    if nat_le (length part + n) room then LiteralPart part n rest else ExcessPart rest

-- The part of a literal and the line after it, if that line has ended. Without its end `room` octets
-- are not too many yet.
abbrev pub by_line : Bool → ℕ → List ℕ → List ℕ → Option (List ℕ × List ℕ) → PartFront
by_line literals room literal octets None =
    if nat_le (length octets) room then OpenPart else ExcessPart (drop (room + 1) octets)
by_line literals room literal octets (Some p) = if nat_lt (length literal + length p.0) room
    then by_announced room (literal ++ (p.0 ++ 10 ∷ [])) p.1 (if literals then announced p.0 else None)
    else ExcessPart (drop (room + 1) octets)

-- The part at the front of some octets: the `owed` octets that the part before announced, whatever
-- they are, and then a line. `literals` says whether a line may announce octets.
abbrev pub part_front : Bool → ℕ → ℕ → List ℕ → PartFront
part_front literals room owed octets =
    by_line literals room (take owed octets) octets (first_line (drop owed octets))

-- The octets that are held of a command: its ended parts, the number of octets that the last of these
-- announced, and the octets of the part that has not ended.
pub record Framing : Type 0 where
  pub held : List ℕ
  pub owed : ℕ
  pub part : List ℕ

-- Nothing is held.
abbrev pub fresh : Framing
fresh = record { held = []; owed = 0; part = [] }

-- What is held, with more octets.
abbrev pub with_octets : Framing → List ℕ → Framing
with_octets f octets = record { held = f.held; owed = f.owed; part = f.part ++ octets }

-- The octets that the command has room for from its present part on.
abbrev pub room_of : Framing → ℕ
room_of f = most_octets - length f.held

-- What the octets of the present part start with.
abbrev pub front_of : Bool → Framing → PartFront
front_of literals f = part_front literals (room_of f) f.owed f.part
