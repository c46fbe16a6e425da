-- The addresses of an address list (RFC 5322, section 3.4).
use Rattle.std.specs.Prelude.{ℕ, Bool, false, ◌&&◌, ◌==◌, List, [], ◌∷◌, ◌++◌, length, if◌then◌else◌}
use Rattle.mail_address.specs.declared.address.AddressKind.TheVariants.{Mailbox, GroupStart, GroupEnd}
use Rattle.mail_address.specs.declared.address.Address.{Address}
use Rattle.mail_address.specs.declared.items.Ending.{Ending}
use Rattle.mail_address.specs.declared.items.Ending.TheVariants.{Comma, Colon, Semicolon}
use Rattle.mail_address.specs.Words.{name_text, address_text}
use Rattle.mail_address.specs.Splits.{split_last, part_after, part_before, is_this}
use Rattle.mail_address.specs.Items.{items_of, is_grouped_after, name_bytes, address_bytes}

-- The address without its route: if it starts with `@`, all up to its last colon is removed (RFC
-- 5322, section 4.4).
abbrev pub without_route : List ℕ → List ℕ
without_route [] = []
without_route (b ∷ bs) =
    if b == 64 then part_after (b ∷ bs) (split_last (is_this 58) (b ∷ bs)) else b ∷ bs

-- The part of an address before its last `@`, or all of it if it has none.
abbrev pub mailbox_of : List ℕ → List ℕ
mailbox_of address = part_before address (split_last (is_this 64) address)

-- The part of an address after its last `@`, or nothing if it has none.
abbrev pub host_of : List ℕ → List ℕ
host_of address = part_after [] (split_last (is_this 64) address)

-- The mailbox with a name and an address, or nothing if both are empty.
abbrev pub mailbox_with : List ℕ → List ℕ → List Address
mailbox_with name address =
    if length name == 0 && length address == 0 then []
    else record {
      kind = Mailbox;
      name = name;
      mailbox = mailbox_of address;
      host = host_of address;
    } ∷ []

-- The mailbox of an item that isn't a group's name.
abbrev pub mailbox_in : List ℕ → List Address
mailbox_in item =
    mailbox_with (name_text (name_bytes item)) (without_route (address_text (address_bytes item)))

-- The start of a group, whose name is before its colon.
abbrev pub group_start : List ℕ → Address
group_start item = record { kind = GroupStart; name = name_text item; mailbox = []; host = [] }

-- The end of a group if a group is open.
abbrev pub group_end : Bool → List Address
group_end grouped =
    if grouped then record { kind = GroupEnd; name = []; mailbox = []; host = [] } ∷ [] else []

-- The addresses of an item, by its end. `grouped` says whether a group is open.
abbrev pub told_by : Bool → List ℕ → Ending → List Address
told_by grouped item Comma = mailbox_in item
told_by grouped item Colon = group_start item ∷ []
told_by grouped item Semicolon = mailbox_in item ++ group_end grouped

-- The addresses of items, one after another.
abbrev pub told : Bool → List (List ℕ × Ending) → List Address
told grouped [] = []
told grouped (item ∷ items) =
    told_by grouped item.0 item.1 ++ told (is_grouped_after grouped item.1) items

-- The addresses of a flat value: mailboxes, and the starts and ends of groups, in order.
abbrev pub addresses_of : List ℕ → List Address
addresses_of value = told false (items_of false value)
