-- Lists of mailboxes with quoted names, comments, routes and groups are read back.
use Rattle.std.specs.Prelude.{◌≡◌, ◌≢◌, ◌⊎◌, ◌<◌, ℕ, Bool, ◌&&◌, not, ◌==◌, List, [], ◌∷◌, ◌++◌, codes, length, map, slice_index, if◌then◌else◌}
use Rattle.std.specs.List.{AllPass, flat_map}
use Rattle.mail_address.specs.declared.address.AddressKind.TheVariants.{Mailbox, GroupStart, GroupEnd}
use Rattle.mail_address.specs.declared.address.Address.{Address}
use Rattle.mail_address.specs.Words.{joined_words}
use Rattle.mail_address.specs.Addresses.{addresses_of}
use Rattle.mail_address.specs.Grammar.{QuotedPart, Literal, Escaped, ValuePiece, Byte, QuotedString, CommentText, piece_bytes, spelled_pieces, ArePieces}
use Rattle.mail_address.specs.Laws.{is_plain}

-- What a quoted string says: its bytes, without the backslashes that quote them.
abbrev pub quoted_said : List QuotedPart → List ℕ
quoted_said [] = []
quoted_said (Literal b ∷ parts) = b ∷ quoted_said parts
quoted_said (Escaped b ∷ parts) = b ∷ quoted_said parts

-- What a piece says in a name: a comment says nothing.
abbrev pub said_in_name : ValuePiece → List ℕ
said_in_name (Byte b) = b ∷ []
said_in_name (QuotedString parts) = quoted_said parts
said_in_name (CommentText inside) = []

-- What a piece says in an address: a quoted string stays as it is written, and spaces are removed.
abbrev pub said_in_address : ValuePiece → List ℕ
said_in_address (Byte b) = if b == 32 then [] else b ∷ []
said_in_address (QuotedString parts) = piece_bytes (QuotedString parts)
said_in_address (CommentText inside) = []

-- The name that pieces say, its words one space apart.
abbrev pub name_said : List ValuePiece → List ℕ
name_said pieces = joined_words (flat_map said_in_name pieces)

-- The address, or the part of it, that pieces say.
abbrev pub address_said : List ValuePiece → List ℕ
address_said pieces = flat_map said_in_address pieces

-- A mailbox as it is written: its name, a route or nothing, and the pieces before and after the
-- `@`.
pub record WrittenMailbox : Type 0 where
  pub name : List ValuePiece
  pub route : List ℕ
  pub local_part : List ValuePiece
  pub host : List ValuePiece

-- A byte of a route: any but `"`, `(`, `>` and a space.
abbrev pub is_route_byte : ℕ → Bool
is_route_byte b = not (b == 34) && not (b == 40) && not (b == 62) && not (b == 32)

-- A route begins with `@` and ends with a colon (RFC 5322, section 4.4).
pub record IsRoute (route : List ℕ) : Type 0 where
  pub domains : List ℕ
  pub bytes : AllPass is_route_byte domains
  pub is : route ≡ 64 ∷ (domains ++ 58 ∷ [])

-- None of the bytes is this one.
abbrev pub HasNo : ℕ → List ℕ → Type 0
HasNo c bytes = (k : ℕ) → slice_index bytes k ≢ c

-- Colons in the address don't end a route: there is none, and the address begins with another byte
-- than `@`, or the address has no colon.
abbrev pub AreColonsFree : WrittenMailbox → Type 0
AreColonsFree mailbox =
    ((mailbox.route ≡ []) × (0 < length (address_said mailbox.local_part)))
    ⊎ (HasNo 58 (address_said mailbox.local_part) × HasNo 58 (address_said mailbox.host))

-- A mailbox that is written with plain bytes, quoted strings and comments.
pub record IsWrittenMailbox (mailbox : WrittenMailbox) : Type 0 where
  pub name : ArePieces is_plain mailbox.name
  pub route : (mailbox.route ≡ []) ⊎ IsRoute mailbox.route
  pub local_part : ArePieces is_plain mailbox.local_part
  pub host : ArePieces is_plain mailbox.host
  pub colons : AreColonsFree mailbox
  pub no_host_at : HasNo 64 (address_said mailbox.host)

-- `NAME<ROUTE LOCAL@HOST>`.
abbrev pub written : WrittenMailbox → List ℕ
written m =
    spelled_pieces m.name ++ 60
    ∷ (m.route ++ (spelled_pieces m.local_part ++ 64 ∷ (spelled_pieces m.host ++ 62 ∷ [])))

-- Mailboxes joined by `, `.
abbrev pub written_list : List WrittenMailbox → List ℕ
written_list [] = []
written_list (m ∷ []) = written m
written_list (m ∷ next ∷ mailboxes) = written m ++ (codes ", " ++ written_list (next ∷ mailboxes))

-- A member of a list: a mailbox, or a group with its name and mailboxes.
pub data Member : Type 0 where
  One : WrittenMailbox → Member
  Group : List ValuePiece → List WrittenMailbox → Member

-- Each mailbox is so written.
abbrev pub AllWritten : List WrittenMailbox → Type 0
AllWritten [] = Unit {0}
AllWritten (m ∷ mailboxes) = IsWrittenMailbox m × AllWritten mailboxes

-- A member of mailboxes that are so written. The name of a group is of plain bytes, quoted strings
-- and comments.
abbrev pub IsMember : Member → Type 0
IsMember (One m) = IsWrittenMailbox m
IsMember (Group name mailboxes) = ArePieces is_plain name × AllWritten mailboxes

-- Each is such a member.
abbrev pub AreMembers : List Member → Type 0
AreMembers [] = Unit {0}
AreMembers (member ∷ members) = IsMember member × AreMembers members

-- A group is `NAME:MAILBOXES;`.
abbrev pub member_bytes : Member → List ℕ
member_bytes (One m) = written m
member_bytes (Group name mailboxes) = spelled_pieces name ++ 58 ∷ (written_list mailboxes ++ 59 ∷ [])

-- Members joined by `, `.
abbrev pub member_list : List Member → List ℕ
member_list [] = []
member_list (member ∷ []) = member_bytes member
member_list (member ∷ next ∷ members) =
    member_bytes member ++ (codes ", " ++ member_list (next ∷ members))

-- The address that a mailbox is read as.
abbrev pub mailbox_said : WrittenMailbox → Address
mailbox_said m =
    record {
      kind = Mailbox;
      name = name_said m.name;
      mailbox = address_said m.local_part;
      host = address_said m.host;
    }

-- The addresses that a member is read as: a group as its start, its mailboxes and its end.
abbrev pub member_said : Member → List Address
member_said (One m) = mailbox_said m ∷ []
member_said (Group name mailboxes) =
    record { kind = GroupStart; name = name_said name; mailbox = []; host = [] }
    ∷ (map mailbox_said mailboxes ++ record {
      kind = GroupEnd;
      name = [];
      mailbox = [];
      host = [];
    } ∷ [])

-- A list of such members is read back as they are: names without quotes, backslashes and comments,
-- addresses without comments, spaces and routes, and groups with their mailboxes.
abbrev pub MembersReadBack : Type 0
MembersReadBack = (members : List Member) → AreMembers members
    → addresses_of (member_list members) ≡ flat_map member_said members
