-- The items of FETCH (RFC 3501, section 7.4.2).
use Rattle.std.specs.Prelude.{ℕ, Bool, true, false, ◌&&◌, ◌||◌, ◌==◌, not, nat_le, min, length, List, [], ◌∷◌, ◌++◌, Option, Some, None, codes, if◌then◌else◌}
use Rattle.std.specs.List.{list_all, flat_map}
use Rattle.std.specs.Fmt.{decimal}
use Rattle.arch_base.specs.Moments.{last_moment}
use Rattle.mail_date.specs.Printed.{imap_text}
use Rattle.mail_forms.specs.declared.row.Row.{Row}
use Rattle.web_text.specs.Days.{date_at}
use Rattle.imap_structure.specs.Strings.{string_of}
use Rattle.imap_structure.specs.Envelopes.{envelope_of}
use Rattle.imap_structure.specs.Structures.{structure_of}
use Rattle.imap_syntax.specs.declared.items.Section.{Section}
use Rattle.imap_syntax.specs.declared.items.SectionText.{SectionText}
use Rattle.imap_syntax.specs.declared.items.SectionText.TheVariants as asked
use Rattle.imap_syntax.specs.declared.items.Partial.{Partial}
use Rattle.imap_syntax.specs.declared.items.Item.{Item}
use Rattle.imap_syntax.specs.declared.items.Item.TheVariants as item
use Rattle.imap_items.specs.Sections.{source_in, source_of, section_value, whole_mail}

-- A byte that a name may have without quotes (RFC 3501, section 9, ASTRING-CHAR).
abbrev pub is_bare : ℕ → Bool
is_bare b = nat_le 33 b && nat_le b 126
    && not (b == 34 || b == 37 || b == 40 || b == 41 || b == 42 || b == 92 || b == 123)

-- The name may stand without quotes: it has one byte or more, and each of them may.
abbrev pub is_bare_name : List ℕ → Bool
is_bare_name name = not (length name == 0) && list_all is_bare name

-- The name of a field: bare, or as a string where it can't stand so (RFC 3501, section 9, astring).
abbrev pub astring_of : List ℕ → List ℕ
astring_of name = if is_bare_name name then name else string_of name

-- A name after a space.
abbrev pub spaced_name : List ℕ → List ℕ
spaced_name name = codes " " ++ astring_of name

-- Names in parentheses.
abbrev pub names_text : List (List ℕ) → List ℕ
names_text [] = codes "()"
names_text (name ∷ names) =
    codes "(" ++ astring_of name ++ flat_map spaced_name names ++ codes ")"

-- What of a part is asked for.
abbrev pub keyword_of : SectionText → List ℕ
keyword_of asked.Whole = []
keyword_of asked.Header = codes "HEADER"
keyword_of (asked.Fields names) = codes "HEADER.FIELDS " ++ names_text names
keyword_of (asked.FieldsNot names) = codes "HEADER.FIELDS.NOT " ++ names_text names
keyword_of asked.Text = codes "TEXT"
keyword_of asked.Mime = codes "MIME"

-- Words after a dot, if there are any.
abbrev pub dotted : List ℕ → List ℕ
dotted [] = []
dotted (b ∷ bs) = codes "." ++ (b ∷ bs)

-- A number after a dot.
abbrev pub dotted_number : ℕ → List ℕ
dotted_number n = codes "." ++ decimal n

-- The numbers of a part and what of it is asked for, with dots between them.
abbrev pub after_numbers : List ℕ → List ℕ → List ℕ
after_numbers [] words = words
after_numbers (n ∷ ns) words = decimal n ++ flat_map dotted_number ns ++ dotted words

-- The offset at which a partial starts.
abbrev pub origin_of : Option Partial → List ℕ
origin_of None = []
origin_of (Some partial) = codes "<" ++ decimal partial.offset ++ codes ">"

-- The name of a section, as it is asked for, and a space.
unfoldable pub label_of : Section → Option Partial → List ℕ
label_of section partial =
    codes "BODY[" ++ after_numbers section.part (keyword_of section.text) ++ codes "]"
    ++ origin_of partial ++ codes " "

-- The moment of an arrival, in UTC. Moments after the last one are printed as the last one.
abbrev pub arrival_text : ℕ → List ℕ
arrival_text secs = imap_text (date_at (min secs last_moment))

-- An item that has no octets of the message: its name, a space, and its value.
abbrev pub fact_of : List ℕ → Row → Item → List ℕ
fact_of text row item.Flags = codes "FLAGS ()"
fact_of text row item.Uid = codes "UID " ++ decimal row.number
fact_of text row item.Size = codes "RFC822.SIZE " ++ decimal row.wire
fact_of text row item.InternalDate =
    codes "INTERNALDATE \"" ++ arrival_text row.arrived ++ codes "\""
fact_of text row item.Envelope = codes "ENVELOPE " ++ envelope_of text
fact_of text row item.Body = codes "BODY " ++ structure_of text
fact_of text row item.BodyStructure = codes "BODYSTRUCTURE " ++ structure_of text
fact_of text row item.Rfc822 = []
fact_of text row item.Rfc822Header = []
fact_of text row item.Rfc822Text = []
fact_of text row (item.Section section partial) = []

-- A name, and what a section has of a mail as a whole.
abbrev pub named_whole : List ℕ → List ℕ → SectionText → List ℕ
named_whole name text what = name ++ section_value None (source_in what (whole_mail text))

-- An item of a message with a text and a row: its name, a space, and its value.
unfoldable pub item_of : List ℕ → Row → Item → List ℕ
item_of text row item.Flags = fact_of text row item.Flags
item_of text row item.Uid = fact_of text row item.Uid
item_of text row item.Size = fact_of text row item.Size
item_of text row item.InternalDate = fact_of text row item.InternalDate
item_of text row item.Envelope = fact_of text row item.Envelope
item_of text row item.Body = fact_of text row item.Body
item_of text row item.BodyStructure = fact_of text row item.BodyStructure
item_of text row item.Rfc822 = named_whole (codes "RFC822 ") text asked.Whole
item_of text row item.Rfc822Header = named_whole (codes "RFC822.HEADER ") text asked.Header
item_of text row item.Rfc822Text = named_whole (codes "RFC822.TEXT ") text asked.Text
item_of text row (item.Section section partial) =
    label_of section partial ++ section_value partial (source_of text section)

-- Numbers, or none.
abbrev pub is_some_number : List ℕ → Bool
is_some_number [] = false
is_some_number (n ∷ ns) = true

-- The item is read off the parts of a message: its structure, or a section with a part's number.
abbrev pub divides : Item → Bool
divides item.Flags = false
divides item.Uid = false
divides item.Size = false
divides item.InternalDate = false
divides item.Envelope = false
divides item.Body = true
divides item.BodyStructure = true
divides item.Rfc822 = false
divides item.Rfc822Header = false
divides item.Rfc822Text = false
divides (item.Section section partial) = is_some_number section.part
