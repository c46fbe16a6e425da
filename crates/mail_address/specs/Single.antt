-- Laws of one item or group of a list, of those open at the value's end, and of the split of an
-- address at its last `@`.
use Rattle.std.specs.Prelude.{◌≡◌, ◌<◌, ℕ, ◌+◌, Bool, ◌&&◌, not, ◌==◌, List, [], ◌∷◌, ◌++◌, length}
use Rattle.mail_address.specs.declared.address.AddressKind.TheVariants.{Mailbox, GroupStart, GroupEnd}
use Rattle.mail_address.specs.declared.address.Address.{Address}
use Rattle.mail_address.specs.Words.{name_text}
use Rattle.mail_address.specs.Addresses.{addresses_of, mailbox_with, without_route}
use Rattle.mail_address.specs.Grammar.{ValuePiece, Byte, QuotedString, CommentText, inside_bytes, spelled_pieces, ArePieces, is_outer_byte}
use Rattle.mail_address.specs.Laws.{is_plain}
use Rattle.mail_address.specs.Mailboxes.{name_said, address_said, HasNo}

-- The inside of the last comment among pieces, or `found` if they have none.
abbrev pub last_inside : List ValuePiece → List ℕ → List ℕ
last_inside [] found = found
last_inside (Byte b ∷ pieces) found = last_inside pieces found
last_inside (QuotedString parts ∷ pieces) found = last_inside pieces found
last_inside (CommentText inside ∷ pieces) found = last_inside pieces (inside_bytes inside)

-- What an item without `<` says: the last comment is the name, and all outside of comments the
-- address.
abbrev pub bare_said : List ValuePiece → List Address
bare_said pieces =
    mailbox_with (name_text (last_inside pieces [])) (without_route (address_said pieces))

-- A byte outside that neither ends an item nor begins an address between brackets: none of `,`,
-- `:`, `;` and `<`.
abbrev pub is_bare_byte : ℕ → Bool
is_bare_byte b = is_outer_byte b && not (b == 44) && not (b == 58) && not (b == 59) && not (b == 60)

-- An item without `<` is read as what it says.
abbrev pub BareReads : Type 0
BareReads = (pieces : List ValuePiece) → ArePieces is_bare_byte pieces
    → addresses_of (spelled_pieces pieces) ≡ bare_said pieces

-- A byte between brackets: any byte outside but `>`.
abbrev pub is_inner_byte : ℕ → Bool
is_inner_byte b = is_outer_byte b && not (b == 62)

-- In `NAME<INSIDE>REST` the rest says nothing.
abbrev pub ItemReads : Type 0
ItemReads =
    (name inside rest : List ValuePiece) → ArePieces is_plain name → ArePieces is_inner_byte inside
    → ArePieces is_plain rest
    → addresses_of (spelled_pieces name ++ 60 ∷ (spelled_pieces inside ++ 62 ∷ spelled_pieces rest))
    ≡ mailbox_with (name_said name) (without_route (address_said inside))

-- In `NAME<INSIDE`, without a later `>`, the address is all that is left.
abbrev pub OpenItemReads : Type 0
OpenItemReads =
    (name inside : List ValuePiece) → ArePieces is_plain name → ArePieces is_inner_byte inside
    → addresses_of (spelled_pieces name ++ 60 ∷ spelled_pieces inside)
    ≡ mailbox_with (name_said name) (without_route (address_said inside))

-- A byte of an item without `<` in a group, where a colon ends no item: none of `,`, `;` and `<`.
abbrev pub is_grouped_byte : ℕ → Bool
is_grouped_byte b = is_outer_byte b && not (b == 44) && not (b == 59) && not (b == 60)

-- A group that is open at the end of the value ends there, and a colon in it ends no item.
abbrev pub GroupReads : Type 0
GroupReads =
    (name pieces : List ValuePiece) → ArePieces is_plain name → ArePieces is_grouped_byte pieces
    → addresses_of (spelled_pieces name ++ 58 ∷ spelled_pieces pieces)
    ≡ record { kind = GroupStart; name = name_said name; mailbox = []; host = [] }
    ∷ (bare_said pieces ++ record { kind = GroupEnd; name = []; mailbox = []; host = [] } ∷ [])

-- An address is split at its last `@`.
abbrev pub AddressIsSplit : Type 0
AddressIsSplit =
    (name local_part host : List ℕ) → HasNo 64 host
    → mailbox_with name (local_part ++ 64 ∷ host)
    ≡ record { kind = Mailbox; name = name; mailbox = local_part; host = host } ∷ []

-- An address without `@` has no host, and a name or an address alone is a mailbox.
abbrev pub AloneIsMailbox : Type 0
AloneIsMailbox =
    (name address : List ℕ) → HasNo 64 address → 0 < length name + length address
    → mailbox_with name address
    ≡ record { kind = Mailbox; name = name; mailbox = address; host = [] } ∷ []

-- Without a name and without an address there is no mailbox.
abbrev pub NothingIsNoMailbox : Type 0
NothingIsNoMailbox = mailbox_with [] [] ≡ []
