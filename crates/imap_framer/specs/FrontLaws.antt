-- The law of the part at the front of a command's octets.
use Rattle.std.specs.Prelude.{◌≡◌, ◌≤◌, ◌<◌, ◌+◌, ◌⊎◌, ◌↔◌, ℕ, if◌then◌else◌, List, [], ◌∷◌, ◌++◌, length, drop, Option, Some, None, Bool, true, false}
use Rattle.std.specs.List.{list_all}
use Rattle.arch_base.specs.Decimals.{read_on}
use Rattle.line_door.specs.Lines.{first_line}
use Rattle.line_door.specs.LineLaws.{NoFeed}
use Rattle.imap_framer.specs.Framing.{is_digit, announced, LastPart, LiteralPart, ExcessPart, OpenPart, by_announced, part_front}

-- The line ends with `{`, one or more digits of this value, `}` and at most one carriage return (RFC
-- 3501, section 4.3).
pub record IsAnnouncement (line : List ℕ) (n : ℕ) : Type 0 where
  pub before : List ℕ
  pub digits : List ℕ
  pub ending : List ℕ
  pub some : 0 < length digits
  pub are_digits : list_all is_digit digits ≡ true
  pub value : n ≡ read_on 0 digits
  pub ends : (ending ≡ []) ⊎ (ending ≡ 13 ∷ [])
  pub spelled : line ≡ before ++ 123 ∷ (digits ++ 125 ∷ ending)

-- The law of the part at the front.
pub record PartLaw : Type 0 where
  -- A line announces a number exactly where it ends with its announcement.
  pub announces : (line : List ℕ) (n : ℕ) → announced line ≡ Some n ↔ IsAnnouncement line n
  -- No part has ended exactly where no line has ended after the literal and the octets have room.
  pub open_part : (literals : Bool) (room owed : ℕ) (octets : List ℕ)
      → part_front literals room owed octets ≡ OpenPart
      ↔ (first_line (drop owed octets) ≡ None) × (length octets ≤ room)
  -- A line after a literal of `owed` octets ends the part, if there is room for both.
  pub whole : (literals : Bool) (room : ℕ) (literal line rest : List ℕ) → NoFeed line
      → length literal + length line < room
      → part_front literals room (length literal) (literal ++ (line ++ 10 ∷ rest))
      ≡ by_announced room (literal ++ (line ++ 10 ∷ [])) rest (if literals then announced line else None)
  -- More octets leave a part that has ended, or that is too long, what it is.
  pub last_goes_on : (literals : Bool) (room owed : ℕ) (octets more part rest : List ℕ)
      → part_front literals room owed octets ≡ LastPart part rest
      → part_front literals room owed (octets ++ more) ≡ LastPart part (rest ++ more)
  pub literal_goes_on : (literals : Bool) (room owed n : ℕ) (octets more part rest : List ℕ)
      → part_front literals room owed octets ≡ LiteralPart part n rest
      → part_front literals room owed (octets ++ more) ≡ LiteralPart part n (rest ++ more)
  pub excess_goes_on : (literals : Bool) (room owed : ℕ) (octets more rest : List ℕ)
      → part_front literals room owed octets ≡ ExcessPart rest
      → part_front literals room owed (octets ++ more) ≡ ExcessPart (rest ++ more)
