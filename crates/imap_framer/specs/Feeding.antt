-- What a piece does to the octets that are held of a command.
use Rattle.std.specs.Prelude.{◌≡◌, ◌≤◌, ◌<◌, ◌+◌, ℕ, List, [], ◌++◌, length, take, drop, Bool, true, false}
use Rattle.imap_framer.specs.Framing.{most_octets, LastPart, LiteralPart, ExcessPart, OpenPart, Framing, fresh, with_octets, front_of}
use Rattle.imap_framer.specs.declared.framer.Found.{Found}
use Rattle.imap_framer.specs.declared.framer.Found.TheVariants as found
use Rattle.imap_framer.specs.declared.parts.NextPart.{NextPart}
use Rattle.imap_framer.specs.declared.parts.NextPart.TheVariants as next

-- The last part of the command ends with the first `used` octets of the piece.
pub record EndsLast (literals : Bool) (f : Framing) (piece : List ℕ) (used : ℕ) : Type 0 where
  pub within : used ≤ length piece
  pub some : 0 < used
  pub last : front_of literals (with_octets f piece) ≡ LastPart (f.part ++ take used piece) (drop used piece)

-- A part that announces `octets` octets ends with the first `used` octets of the piece. The command
-- has room for them.
pub record EndsLiteral (literals : Bool) (f : Framing) (piece : List ℕ) (used octets : ℕ) : Type 0 where
  pub within : used ≤ length piece
  pub some : 0 < used
  pub announces : front_of literals (with_octets f piece)
      ≡ LiteralPart (f.part ++ take used piece) octets (drop used piece)
  pub fits : length f.held + (length f.part + used) + octets ≤ most_octets

-- The octet at the end of the first `used` of the piece makes the command too long.
pub record EndsExcess (literals : Bool) (f : Framing) (piece : List ℕ) (used : ℕ) : Type 0 where
  pub within : used ≤ length piece
  pub some : 0 < used
  pub excess : front_of literals (with_octets f piece) ≡ ExcessPart (drop used piece)

-- No part has ended, whether lines may announce octets or not, and the octets are not too many.
abbrev pub IsOpen : Framing → Type 0
IsOpen f = (literals : Bool) → front_of literals f ≡ OpenPart

-- How a piece goes on after what is held.
abbrev pub IsNextPart : Bool → Framing → List ℕ → NextPart → Type 0
IsNextPart literals f piece (next.Last used) = EndsLast literals f piece used
IsNextPart literals f piece (next.Literal used octets) = EndsLiteral literals f piece used octets
IsNextPart literals f piece (next.TooLong used) = EndsExcess literals f piece used
IsNextPart literals f piece next.More = IsOpen (with_octets f piece)

-- What is held after the end of a part that announces `owed` octets.
abbrev pub holding : Framing → List ℕ → ℕ → Framing
holding f octets owed = record { held = f.held ++ (f.part ++ octets); owed = owed; part = [] }

-- The octets of a command whose last part ends with `octets`.
abbrev pub command_of : Framing → List ℕ → List ℕ
command_of f octets = f.held ++ (f.part ++ octets)

-- What is found in the first `used` octets of a piece, and what is held then. All of a piece without
-- the end of a part is held. Of a piece that runs out of memory nothing is used, and nothing changes.
abbrev pub IsFramed : Bool → Framing → List ℕ → Framing → ℕ → Found → Type 0
IsFramed literals f piece g used found.More =
    IsOpen (with_octets f piece) × (used ≡ length piece) × (g ≡ with_octets f piece)
IsFramed literals f piece g used found.Continue =
    EndsLiteral literals f piece used g.owed × (g ≡ holding f (take used piece) g.owed)
IsFramed literals f piece g used (found.Command command) =
    EndsLast literals f piece used × (command ≡ command_of f (take used piece)) × (g ≡ fresh)
IsFramed literals f piece g used found.TooLong = EndsExcess literals f piece used × (g ≡ fresh)
IsFramed literals f piece g used found.NoMemory = (used ≡ 0) × (g ≡ f)

-- A client is asked for the octets that it announced.
abbrev pub asks_on : Found → Bool
asks_on found.More = false
asks_on found.Continue = true
asks_on (found.Command command) = false
asks_on found.TooLong = false
asks_on found.NoMemory = false
