-- What a mail says of itself in a list of mails: its author, its subject and its date.
use Rattle.std.specs.Prelude.{ℕ, Bool, true, false, List, [], ◌∷◌, ◌++◌, codes, Option, Some, None, option_and_then, if◌then◌else◌}
use Rattle.std.specs.List.{flat_map, find}
use Rattle.std.specs.Str.{str_eq_ignore_ascii_case}
use Rattle.git_objects.specs.CleanText.{clean}
use Rattle.mail_address.specs.declared.address.Address.{Address}
use Rattle.mail_address.specs.declared.address.AddressKind.{AddressKind}
use Rattle.mail_address.specs.declared.address.AddressKind.TheVariants.{Mailbox, GroupStart, GroupEnd}
use Rattle.mail_address.specs.Addresses.{addresses_of}
use Rattle.mail_date.specs.declared.moment.Moment.{Moment}
use Rattle.mail_date.specs.Reading.{moment_in}
use Rattle.mail_reader.specs.Fields.{FieldText, fields_of, first_named}
use Rattle.mail_reader.specs.Values.{flat_of}
use Rattle.mime_words.specs.Decoding.{decoded}

-- The flat values of the fields with a name, in order (RFC 5322, section 2.2.3).
abbrev pub values_of : List ℕ → List FieldText → List (List ℕ)
values_of name [] = []
values_of name (field ∷ fields) =
    if str_eq_ignore_ascii_case field.name name then flat_of field.value ∷ values_of name fields
    else values_of name fields

-- The value after a comma and a space.
abbrev pub after_comma : List ℕ → List ℕ
after_comma value = codes ", " ++ value

-- The values as one list, separated by a comma and a space.
abbrev pub listed : List (List ℕ) → List ℕ
listed [] = []
listed (value ∷ values) = value ++ flat_map after_comma values

-- The address list of all From fields (RFC 5322, section 3.6.2).
abbrev pub from_list : List ℕ → List ℕ
from_list text = listed (values_of (codes "From") (fields_of text))

-- The member of an address list is a mailbox.
abbrev pub is_mailbox : AddressKind → Bool
is_mailbox Mailbox = true
is_mailbox GroupStart = false
is_mailbox GroupEnd = false

-- The first mailbox of a list, in a group or not.
abbrev pub first_mailbox_of : List Address → Option Address
first_mailbox_of addresses = find (λ (address : Address). is_mailbox address.kind) addresses

-- The first mailbox of a text's From fields.
unfoldable pub first_mailbox : List ℕ → Option Address
first_mailbox text = first_mailbox_of (addresses_of (from_list text))

-- The clean address of a mailbox. The `@` is there without a host, too.
abbrev pub clean_address : Address → List ℕ
clean_address address = clean (address.mailbox ++ 64 ∷ address.host)

-- The name, or the address if the name is empty.
abbrev pub name_or : List ℕ → List ℕ → List ℕ
name_or [] address = address
name_or (b ∷ bs) address = b ∷ bs

-- The clean name of a mailbox, its encoded words decoded; or its clean address if that is empty; or
-- `unknown` without a mailbox.
abbrev pub from_of : Option Address → List ℕ
from_of None = codes "unknown"
from_of (Some address) = name_or (clean (decoded address.name)) (clean_address address)

-- The author of a text.
unfoldable pub from_fact : List ℕ → List ℕ
from_fact text = from_of (first_mailbox text)

-- The clean address of a mailbox, in which no encoded word is decoded. Without a mailbox it is
-- empty.
abbrev pub email_of : Option Address → List ℕ
email_of None = []
email_of (Some address) = clean_address address

-- The address of a text's author.
unfoldable pub email_fact : List ℕ → List ℕ
email_fact text = email_of (first_mailbox text)

-- The flat value of a field, its encoded words decoded. Without a field it is empty.
abbrev pub subject_of : Option FieldText → List ℕ
subject_of None = []
subject_of (Some field) = decoded (flat_of field.value)

-- The subject of a text: that of its first Subject field, or nothing (RFC 5322, section 3.6.5).
unfoldable pub subject_fact : List ℕ → List ℕ
subject_fact text = subject_of (first_named (codes "Subject") (fields_of text))

-- When a text was written, and in which zone: what its first Date field spells, if it spells a
-- moment (RFC 5322, section 3.6.1).
unfoldable pub date_fact : List ℕ → Option Moment
date_fact text = option_and_then (λ (field : FieldText).
    moment_in field.value) (first_named (codes "Date") (fields_of text))
