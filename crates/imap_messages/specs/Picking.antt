-- The messages that a client was told, and which of them a command names (RFC 3501, sections 2.3.1,
-- 6.4.8 and 9, sequence-set).
use Rattle.std.specs.Prelude.{◌+◌, ◌-◌, ℕ, nat_le, Bool, true, false, not, ◌&&◌, List, [], ◌∷◌, length, slice_index}
use Rattle.std.specs.List.{filter, list_all}
use Rattle.imap_syntax.specs.Sets.{end_number, in_set}
use Rattle.imap_syntax.specs.declared.sets.SetRange.{SetRange}
use Rattle.imap_messages.specs.declared.numbering.Numbering.{Numbering}
use Rattle.imap_messages.specs.declared.numbering.Numbering.TheVariants as by

-- How a command names messages, by whether it stands after the word UID.
abbrev pub numbering_of : Bool → Numbering
numbering_of false = by.Sequence
numbering_of true = by.Uid

-- A message that a client was told: its sequence number and its UID.
pub record ToldMessage : Type 0 where
  pub sequence : ℕ
  pub uid : ℕ

-- The message with these numbers.
abbrev pub told_message : ℕ → ℕ → ToldMessage
told_message sequence uid = record { sequence = sequence; uid = uid }

-- The messages with these UIDs, of which the first has a sequence number.
abbrev pub messages_from : ℕ → List ℕ → List ToldMessage
messages_from sequence [] = []
messages_from sequence (n ∷ ns) = told_message sequence n ∷ messages_from (sequence + 1) ns

-- The greatest UID that a client was told: the last of them, which rise.
abbrev pub greatest_uid : List ℕ → ℕ
greatest_uid told = slice_index told (length told - 1)

-- What `*` means: the greatest sequence number, or the greatest UID, whether its message is live or
-- not.
abbrev pub star_of : Numbering → List ℕ → ℕ
star_of by.Sequence told = length told
star_of by.Uid told = greatest_uid told

-- The number by which a command names a message.
abbrev pub number_by : Numbering → ToldMessage → ℕ
number_by by.Sequence m = m.sequence
number_by by.Uid m = m.uid

-- A set has the message.
abbrev pub picks : Numbering → List SetRange → ℕ → ToldMessage → Bool
picks numbering set star m = in_set (number_by numbering m) star set

-- The messages that a set has, by rising numbers and each once, however the set is written.
unfoldable pub picked : Numbering → List SetRange → List ℕ → List ToldMessage
picked numbering set told = filter (picks numbering set (star_of numbering told)) (messages_from 1 told)

-- The number is one of so many sequence numbers.
abbrev pub is_told : ℕ → ℕ → Bool
is_told count n = nat_le 1 n && nat_le n count

-- Both ends of a range are sequence numbers.
abbrev pub range_is_told : ℕ → SetRange → Bool
range_is_told count range =
    is_told count (end_number count range.first) && is_told count (end_number count range.last)

-- All ends of a set are sequence numbers.
abbrev pub set_is_told : ℕ → List SetRange → Bool
set_is_told count set = list_all (range_is_told count) set

-- A set of sequence numbers names one that there isn't. UIDs may be any.
abbrev pub is_outside : Numbering → List SetRange → List ℕ → Bool
is_outside by.Sequence set told = not (set_is_told (length told) set)
is_outside by.Uid set told = false
