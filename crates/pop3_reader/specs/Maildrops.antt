-- The maildrop: what a client is shown of a mailbox, as it was at PASS (RFC 1939, section 4). It stays
-- for the whole session, so that a number of it always names the same message.
use Rattle.std.specs.Prelude.{ℕ, zero, suc, List, map, min, slice_get, Option, Some, None}
use Rattle.std.specs.List.{sum_by}
use Rattle.mail_forms.specs.declared.row.Row.{Row}
use Rattle.arch_model.specs.Archives.{Archive, live}
use Rattle.arch_model.specs.Listings.{row_in}
use Rattle.shelf_doors.specs.Mailboxes.{mailbox_range}
use Rattle.shelf_doors.specs.Numbers.{live_in}
use Rattle.pop3_reader.specs.declared.maildrop.MailSize.{MailSize}
use Rattle.pop3_reader.specs.declared.maildrop.Maildrop.{Maildrop}

-- The length of the wire form of a row's text. Only a live message is asked for.
abbrev pub wire_octets : Option Row → ℕ
wire_octets None = 0
wire_octets (Some row) = row.wire

-- A live message by its number, and the length of its wire form.
abbrev pub size_of : Archive → ℕ → MailSize
size_of a n = record {
  number = n;
  octets = wire_octets (row_in a.config.form (live a.entries) n);
}

-- The live messages with numbers in a range, by number.
unfoldable pub sizes_within : Archive → ℕ → ℕ → List MailSize
sizes_within a first last = map (size_of a) (live_in (live a.entries) first last)

-- The live messages of a mailbox over the archive now, by number.
abbrev pub snapshot : Archive → ℕ → List MailSize
snapshot a index =
    sizes_within a (mailbox_range a index).first (mailbox_range a index).last

-- The maildrop that PASS takes. The moment of the archive's making is a part of each unique id.
abbrev pub maildrop_of : Archive → ℕ → Maildrop
maildrop_of a index = record { born = a.config.born; mails = snapshot a index }

-- The message that a client calls `k`, from 1 on, if there is one.
abbrev pub mail_at : List MailSize → ℕ → Option MailSize
mail_at mails zero = None
mail_at mails (suc k) = slice_get mails k

-- The octets of a message.
abbrev pub octets_of : MailSize → ℕ
octets_of mail = mail.octets

-- The greatest number of 64 bits.
abbrev pub greatest_count : ℕ
greatest_count = 18446744073709551615

-- The octets of all messages. A sum of 2^64 or more, which no archive comes near, counts as 2^64 - 1.
abbrev pub total_octets : List MailSize → ℕ
total_octets mails = min (sum_by octets_of mails) greatest_count
