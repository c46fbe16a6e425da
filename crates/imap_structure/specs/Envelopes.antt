-- The envelope of a message (RFC 3501, section 7.4.2, ENVELOPE).
use Rattle.std.specs.Prelude.{ℕ, List, [], ◌∷◌, ◌++◌, codes}
use Rattle.std.specs.List.{flat_map}
use Rattle.mail_address.specs.declared.address.Address.{Address}
use Rattle.mail_address.specs.declared.address.AddressKind.{AddressKind}
use Rattle.mail_address.specs.declared.address.AddressKind.TheVariants.{Mailbox, GroupStart, GroupEnd}
use Rattle.mail_address.specs.Addresses.{addresses_of}
use Rattle.mail_reader.specs.Fields.{fields_of}
use Rattle.mail_forms.specs.NamedValues.{values_of, listed}
use Rattle.mime_parts.specs.Headings.{flat_first}
use Rattle.imap_structure.specs.Strings.{string_of, nstring_of}

-- The addresses of all fields with a name, whose values are read as one list.
unfoldable pub addresses_in : List ℕ → List ℕ → List Address
addresses_in name bytes = addresses_of (listed (values_of name (fields_of bytes)))

-- The name of a mailbox, or `NIL` for an empty one.
abbrev pub name_text : List ℕ → List ℕ
name_text [] = codes "NIL"
name_text (b ∷ bs) = string_of (b ∷ bs)

-- An address by its kind: of a mailbox its name, no route, and its address in two parts; of the
-- start of a group the group's name, and of its end nothing.
abbrev pub address_by : AddressKind → Address → List ℕ
address_by Mailbox a = codes "(" ++ name_text a.name ++ codes " NIL " ++ string_of a.mailbox
    ++ codes " " ++ string_of a.host ++ codes ")"
address_by GroupStart a = codes "(NIL NIL " ++ string_of a.name ++ codes " NIL)"
address_by GroupEnd a = codes "(NIL NIL NIL NIL)"

-- An address.
abbrev pub address_text : Address → List ℕ
address_text a = address_by a.kind a

-- Addresses in parentheses without spaces between them, or `NIL` without any.
unfoldable pub addresses_text : List Address → List ℕ
addresses_text [] = codes "NIL"
addresses_text (a ∷ others) = codes "(" ++ flat_map address_text (a ∷ others) ++ codes ")"

-- These addresses, or others if there are none.
abbrev pub or_else : List Address → List Address → List Address
or_else [] others = others
or_else (a ∷ addresses) others = a ∷ addresses

-- The flat value of the first field with a name, which is not decoded, or `NIL` without such a field.
abbrev pub field_text : List ℕ → List ℕ → List ℕ
field_text name bytes = nstring_of (flat_first name bytes)

-- The addresses of the fields with a name.
abbrev pub field_addresses : List ℕ → List ℕ → List ℕ
field_addresses name bytes = addresses_text (addresses_in name bytes)

-- The same, or those of the authors if there are none.
abbrev pub field_or_from : List ℕ → List ℕ → List ℕ
field_or_from name bytes =
    addresses_text (or_else (addresses_in name bytes) (addresses_in (codes "From") bytes))

-- The date and the subject.
unfoldable pub envelope_texts : List ℕ → List ℕ
envelope_texts bytes =
    field_text (codes "Date") bytes ++ codes " " ++ field_text (codes "Subject") bytes

-- The authors, the sender, and whom an answer is sent to.
unfoldable pub envelope_senders : List ℕ → List ℕ
envelope_senders bytes =
    field_addresses (codes "From") bytes
    ++ codes " " ++ field_or_from (codes "Sender") bytes
    ++ codes " " ++ field_or_from (codes "Reply-To") bytes

-- The recipients.
unfoldable pub envelope_recipients : List ℕ → List ℕ
envelope_recipients bytes =
    field_addresses (codes "To") bytes
    ++ codes " " ++ field_addresses (codes "Cc") bytes
    ++ codes " " ++ field_addresses (codes "Bcc") bytes

-- What the message answers, and its id.
unfoldable pub envelope_ids : List ℕ → List ℕ
envelope_ids bytes =
    field_text (codes "In-Reply-To") bytes ++ codes " " ++ field_text (codes "Message-ID") bytes

-- The front of the ten values, with the space before the recipients.
abbrev pub envelope_front : List ℕ → List ℕ
envelope_front bytes =
    codes "(" ++ envelope_texts bytes ++ codes " " ++ envelope_senders bytes ++ codes " "

-- The envelope of a message with these bytes: its ten values in parentheses.
abbrev pub envelope_of : List ℕ → List ℕ
envelope_of bytes = envelope_front bytes ++ envelope_recipients bytes ++ codes " "
    ++ envelope_ids bytes ++ codes ")"
