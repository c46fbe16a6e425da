-- Laws of the addresses of a list.
use Rattle.std.specs.Prelude.{◌≡◌, ℕ, Bool, true, false, ◌&&◌, not, ◌==◌, List, [], ◌∷◌, ◌++◌, codes, length, map, take}
use Rattle.std.specs.List.{All, AllPass, flat_map}
use Rattle.mail_address.specs.declared.place.Place.{Place}
use Rattle.mail_address.specs.declared.address.AddressKind.TheVariants.{Mailbox}
use Rattle.mail_address.specs.declared.address.Address.{Address}
use Rattle.mail_address.specs.Places.{marked, is_outside}
use Rattle.mail_address.specs.Grammar.{ValuePiece, Byte, QuotedString, CommentText, piece_bytes, spelled_pieces, ArePieces, is_outer_byte}
use Rattle.mail_address.specs.Words.{joined_words}
use Rattle.mail_address.specs.Addresses.{addresses_of}

-- A value without bytes has no addresses.
abbrev pub EmptyValue : Type 0
EmptyValue = addresses_of [] ≡ []

-- A byte with its place is outside, and begins neither a quoted string nor a comment.
abbrev pub stands_outside : ℕ × Place → Bool
stands_outside mark = is_outside mark.1 && is_outer_byte mark.0

-- For each byte of a piece, whether it is outside of quoted strings and comments.
abbrev pub outside_flags : ValuePiece → List Bool
outside_flags (Byte b) = true ∷ []
outside_flags (QuotedString parts) = map (λ (b : ℕ). false) (piece_bytes (QuotedString parts))
outside_flags (CommentText inside) = map (λ (b : ℕ). false) (piece_bytes (CommentText inside))

-- Every value is the front of a text that is spelled from such pieces: what is open at its end is
-- closed there.
abbrev pub EveryValueIsFront : Type 0
EveryValueIsFront =
    (value : List ℕ) → (pieces : List ValuePiece) × (more : List ℕ) × ArePieces is_outer_byte pieces
    × (spelled_pieces pieces ≡ value ++ more)

-- What is taken as outside is just what stands outside of the quoted strings and comments that a
-- value, or a text that it is the front of, is spelled with.
abbrev pub OutsideIsBetween : Type 0
OutsideIsBetween =
    (pieces : List ValuePiece) (value more : List ℕ) → ArePieces is_outer_byte pieces
    → spelled_pieces pieces ≡ value ++ more
    → map stands_outside (marked value) ≡ take (length value) (flat_map outside_flags pieces)

-- A byte without a meaning of its own in an address list: none of `"`, `(`, `)`, `,`, `:`, `;`,
-- `<`, `>`, `@` and `\` (RFC 5322, section 3.2.3).
abbrev pub is_plain : ℕ → Bool
is_plain b =
    not (b == 34) && not (b == 40) && not (b == 41) && not (b == 44) && not (b == 58)
    && not (b == 59) && not (b == 60) && not (b == 62)
    && not (b == 64)
    && not (b == 92)

-- A plain byte other than a space.
abbrev pub is_plain_letter : ℕ → Bool
is_plain_letter b = is_plain b && not (b == 32)

-- A mailbox: its name, and the parts of its address before and after the `@`.
pub record PlainMailbox : Type 0 where
  pub name : List ℕ
  pub local_part : List ℕ
  pub host : List ℕ

-- A mailbox of plain words, of which those of the name stand one space apart.
pub record IsPlainMailbox (mailbox : PlainMailbox) : Type 0 where
  pub name : AllPass is_plain mailbox.name
  pub words : joined_words mailbox.name ≡ mailbox.name
  pub local_part : AllPass is_plain_letter mailbox.local_part
  pub host : AllPass is_plain_letter mailbox.host

-- `NAME <LOCAL@HOST>`.
abbrev pub spelled : PlainMailbox → List ℕ
spelled mailbox = mailbox.name
    ++ (codes " <" ++ (mailbox.local_part ++ (codes "@" ++ (mailbox.host ++ codes ">"))))

-- Mailboxes as they are spelled, joined by `, `.
abbrev pub spelled_list : List PlainMailbox → List ℕ
spelled_list [] = []
spelled_list (mailbox ∷ []) = spelled mailbox
spelled_list (mailbox ∷ next ∷ mailboxes) =
    spelled mailbox ++ (codes ", " ++ spelled_list (next ∷ mailboxes))

-- The address that a mailbox is read as.
abbrev pub address_with : PlainMailbox → Address
address_with mailbox = record {
  kind = Mailbox;
  name = mailbox.name;
  mailbox = mailbox.local_part;
  host = mailbox.host;
}

-- A list of plain mailboxes is read back as they are.
abbrev pub PlainReadBack : Type 0
PlainReadBack = (mailboxes : List PlainMailbox) → All IsPlainMailbox mailboxes
    → addresses_of (spelled_list mailboxes) ≡ map address_with mailboxes
