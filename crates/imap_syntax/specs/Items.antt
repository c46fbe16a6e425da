-- What FETCH asks for (RFC 3501, section 9, fetch-att and section).
use Rattle.std.specs.Prelude.{◌≡◌, ℕ, Bool, true, false, ◌&&◌, ◌==◌, List, [], ◌∷◌, length, slice_index, codes, Option, Some, None, Result, Ok, Err, if◌then◌else◌}
use Rattle.imap_words.specs.Numbers.{number_at, nz_number_at, nz_number_of}
use Rattle.imap_words.specs.Reading.{◌>>=◌, Refuses, with_rest, byte_at, many_at, word_of, behind_word}
use Rattle.imap_words.specs.Strings.{astrings_at}
use Rattle.imap_words.specs.Words.{is_keyword, words_at}
use Rattle.imap_words.specs.declared.stop.Stop.{Stop}
use Rattle.imap_syntax.specs.declared.item_reading.Macro.{Macro}
use Rattle.imap_syntax.specs.declared.item_reading.Macro.TheVariants as macro
use Rattle.imap_syntax.specs.declared.items.Item.{Item}
use Rattle.imap_syntax.specs.declared.items.Item.TheVariants as item
use Rattle.imap_syntax.specs.declared.items.Partial.{Partial}
use Rattle.imap_syntax.specs.declared.items.Section.{Section}
use Rattle.imap_syntax.specs.declared.items.SectionText.{SectionText}
use Rattle.imap_syntax.specs.declared.items.SectionText.TheVariants as asked
use Rattle.imap_syntax.specs.declared.sections.SectionName.{SectionName}
use Rattle.imap_syntax.specs.declared.sections.SectionName.TheVariants as name
use Rattle.imap_syntax.specs.declared.sections.SectionWord.{SectionWord}

-- HEADER.FIELDS.NOT, by its first two words and the others.
abbrev pub not_of : List ℕ → List ℕ → List (List ℕ) → Option SectionName
not_of word other [] = None
not_of word other (third ∷ []) =
    if is_keyword (codes "HEADER") word && is_keyword (codes "FIELDS") other && is_keyword (codes "NOT") third
    then Some name.FieldsNot else None
not_of word other (third ∷ fourth ∷ words) = None

-- HEADER.FIELDS or HEADER.FIELDS.NOT, by its first word and the others.
abbrev pub fields_of : List ℕ → List (List ℕ) → Option SectionName
fields_of word [] = None
fields_of word (other ∷ []) =
    if is_keyword (codes "HEADER") word && is_keyword (codes "FIELDS") other then Some name.Fields else None
fields_of word (other ∷ third ∷ words) = not_of word other (third ∷ words)

-- The text of a section that a keyword of these words names. MIME stands after a part's number alone.
abbrev pub section_name_of : Bool → List (List ℕ) → Option SectionName
section_name_of numbered [] = None
section_name_of numbered (word ∷ []) =
    if is_keyword (codes "HEADER") word then Some name.Header
    else if is_keyword (codes "TEXT") word then Some name.Text
    else if numbered && is_keyword (codes "MIME") word then Some name.Mime
    else None
section_name_of numbered (word ∷ other ∷ words) = fields_of word (other ∷ words)

-- The same with a part's numbers, if it names one.
abbrev pub word_by : List ℕ → Option SectionName → Option SectionWord
word_by part None = None
word_by part (Some found) = Some (record { part = part; name = found })

-- A number before a part's other numbers.
abbrev pub part_before : ℕ → Option SectionWord → Option SectionWord
part_before n None = None
part_before n (Some word) = Some (record { part = n ∷ word.part; name = word.name })

-- A word before others is a number, or else a keyword begins here.
abbrev pub parts_by : Option ℕ → Option SectionWord → Option SectionWord → Option SectionWord
parts_by None here more = here
parts_by (Some n) here more = part_before n more

-- A part's numbers, and after them the words of a keyword, or nothing after one number or more.
abbrev pub parts_of : Bool → List (List ℕ) → Option SectionWord
parts_of numbered [] = if numbered then word_by [] (Some name.Whole) else None
parts_of numbered (word ∷ words) =
    parts_by (nz_number_of word) (word_by [] (section_name_of numbered (word ∷ words))) (parts_of true words)

-- The part and the text that the word of a section names. No word names the whole message.
unfoldable pub section_word_of : List ℕ → Option SectionWord
section_word_of word =
    if length word == 0 then word_by [] (Some name.Whole) else parts_of false (words_at 46 word)

-- The names of fields, in parentheses after a space (header-list).
unfoldable pub names_at : List ℕ → Option (List (List ℕ) × List ℕ)
names_at octets = do
  rest ← byte_at 32 octets
  inside ← byte_at 40 rest
  names ← astrings_at inside
  behind ← byte_at 41 names.1
  Some (names.0, behind)

-- The text of a section, by its name.
abbrev pub section_text_at : SectionName → List ℕ → Option (SectionText × List ℕ)
section_text_at name.Whole octets = Some (asked.Whole, octets)
section_text_at name.Header octets = Some (asked.Header, octets)
section_text_at name.Text octets = Some (asked.Text, octets)
section_text_at name.Mime octets = Some (asked.Mime, octets)
section_text_at name.Fields octets = do
  names ← names_at octets
  Some (asked.Fields names.0, names.1)
section_text_at name.FieldsNot octets = do
  names ← names_at octets
  Some (asked.FieldsNot names.0, names.1)

-- A section in brackets: a part's numbers and a keyword, and the names of fields (section).
unfoldable pub section_at : List ℕ → Option (Section × List ℕ)
section_at octets = do
  inside ← byte_at 91 octets
  word ← section_word_of (word_of inside)
  found ← section_text_at word.name (behind_word inside)
  rest ← byte_at 93 found.1
  Some (record { part = word.part; text = found.0 }, rest)

-- An offset and a count with a dot between them, and `>`.
unfoldable pub partial_inside : List ℕ → Option (Partial × List ℕ)
partial_inside octets = do
  offset ← number_at octets
  next ← byte_at 46 offset.1
  count ← nz_number_at next
  rest ← byte_at 62 count.1
  Some (record { offset = offset.0; count = count.0 }, rest)

-- A partial that has to be there.
abbrev pub some_partial : Option (Partial × List ℕ) → Option (Option Partial × List ℕ)
some_partial None = None
some_partial (Some p) = Some (Some p.0, p.1)

-- A partial, if `<` came first.
abbrev pub partial_by : List ℕ → Option (List ℕ) → Option (Option Partial × List ℕ)
partial_by octets None = Some (None, octets)
partial_by octets (Some inside) = some_partial (partial_inside inside)

-- `<offset.count>`, if `<` comes next.
unfoldable pub partial_at : List ℕ → Option (Option Partial × List ℕ)
partial_at octets = partial_by octets (byte_at 60 octets)

-- A section, and the octets of it that are asked for.
unfoldable pub body_at : List ℕ → Option (Item × List ℕ)
body_at octets = do
  section ← section_at octets
  partial ← partial_at section.1
  Some (item.Section section.0 partial.0, partial.1)

-- The item that a keyword other than BODY names.
abbrev pub plain_item_of : List ℕ → Option Item
plain_item_of word =
    if is_keyword (codes "FLAGS") word then Some item.Flags
    else if is_keyword (codes "UID") word then Some item.Uid
    else if is_keyword (codes "RFC822.SIZE") word then Some item.Size
    else if is_keyword (codes "INTERNALDATE") word then Some item.InternalDate
    else if is_keyword (codes "ENVELOPE") word then Some item.Envelope
    else if is_keyword (codes "BODYSTRUCTURE") word then Some item.BodyStructure
    else if is_keyword (codes "RFC822") word then Some item.Rfc822
    else if is_keyword (codes "RFC822.HEADER") word then Some item.Rfc822Header
    else if is_keyword (codes "RFC822.TEXT") word then Some item.Rfc822Text
    else None

-- BODY is an item of its own where no section follows it.
abbrev pub item_by : List ℕ → List ℕ → Option (Item × List ℕ)
item_by word octets =
    if is_keyword (codes "BODY.PEEK") word then body_at octets
    else if is_keyword (codes "BODY") word
    then (if slice_index octets 0 == 91 then body_at octets else Some (item.Body, octets))
    else with_rest octets (plain_item_of word)

-- The item at the front (fetch-att).
unfoldable pub item_at : List ℕ → Option (Item × List ℕ)
item_at octets = item_by (word_of octets) (behind_word octets)

-- The macro that a keyword names (RFC 3501, section 6.4.5).
abbrev pub macro_of : List ℕ → Option Macro
macro_of word =
    if is_keyword (codes "ALL") word then Some macro.All
    else if is_keyword (codes "FULL") word then Some macro.Full
    else if is_keyword (codes "FAST") word then Some macro.Fast
    else None

-- The items that a macro stands for (RFC 3501, section 6.4.5).
abbrev pub items_of_macro : Macro → List Item
items_of_macro macro.Fast = item.Flags ∷ item.InternalDate ∷ item.Size ∷ []
items_of_macro macro.All = item.Flags ∷ item.InternalDate ∷ item.Size ∷ item.Envelope ∷ []
items_of_macro macro.Full = item.Flags ∷ item.InternalDate ∷ item.Size ∷ item.Envelope ∷ item.Body ∷ []

-- One item after its keyword, as a list.
abbrev pub one_item_by : List ℕ → List ℕ → Option (List Item × List ℕ)
one_item_by word octets = do
  only ← item_by word octets
  Some (only.0 ∷ [], only.1)

-- A macro, or else one item.
abbrev pub macro_by : List ℕ → List ℕ → Option Macro → Option (List Item × List ℕ)
macro_by word octets None = one_item_by word octets
macro_by word octets (Some found) = Some (items_of_macro found, octets)

-- A macro or one item at the front.
unfoldable pub macro_or_item_at : List ℕ → Option (List Item × List ℕ)
macro_or_item_at octets = macro_by (word_of octets) (behind_word octets) (macro_of (word_of octets))

-- Items in parentheses.
abbrev pub item_list_at : List ℕ → Option (List Item × List ℕ)
item_list_at octets = do
  inside ← byte_at 40 octets
  items ← many_at item_at (length inside) inside
  rest ← byte_at 41 items.1
  Some (items.0, rest)

-- What FETCH asks for: items in parentheses, a macro, or one item (fetch).
unfoldable pub items_at : List ℕ → Option (List Item × List ℕ)
items_at octets =
    if slice_index octets 0 == 40 then item_list_at octets else macro_or_item_at octets

-- What reading the word of a section gives, unless memory ran out.
abbrev pub SpellsSection : Result SectionWord Stop → Option SectionWord → Type 0
SpellsSection (Ok found) word = word ≡ Some found
SpellsSection (Err e) word = Refuses e word
