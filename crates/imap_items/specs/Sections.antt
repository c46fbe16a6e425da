-- Sections of a mail (RFC 3501, section 6.4.5, BODY[section]<partial>).
use Rattle.std.specs.Prelude.{ℕ, ◌-◌, ◌==◌, Bool, true, not, List, [], ◌∷◌, ◌++◌, take, drop, Option, Some, None, option_and_then, codes, if◌then◌else◌}
use Rattle.std.specs.List.{list_any, filter}
use Rattle.std.specs.Str.{str_eq_ignore_ascii_case}
use Rattle.mail_reader.specs.Fields.{FieldText, fields_of}
use Rattle.mail_reader.specs.Bodies.{body_of}
use Rattle.mail_reader.specs.Laws.{wholes}
use Rattle.mail_forms.specs.WireForms.{wire_of}
use Rattle.mime_parts.specs.declared.part.Part.{Part}
use Rattle.mime_parts.specs.declared.part.Shape.{Shape}
use Rattle.mime_parts.specs.declared.part.Shape.TheVariants.{Leaf, Message, Multipart}
use Rattle.mime_parts.specs.Trees.{bytes_at, tree_of}
use Rattle.imap_structure.specs.Strings.{literal}
use Rattle.imap_structure.specs.Forests.{Forest, Bare, Tree, forest_of}
use Rattle.imap_syntax.specs.declared.items.Section.{Section}
use Rattle.imap_syntax.specs.declared.items.SectionText.{SectionText}
use Rattle.imap_syntax.specs.declared.items.SectionText.TheVariants as asked
use Rattle.imap_syntax.specs.declared.items.Partial.{Partial}

-- What the numbers of a part lead to: its shape, its header, its body, and the trees below it.
pub record PlaceText : Type 0 where
  pub shape : Shape
  pub header : List ℕ
  pub body : List ℕ
  pub below : Forest

-- A part with the trees below it.
abbrev pub place_of : List ℕ → Part → Forest → PlaceText
place_of text p below = record {
  shape = p.shape;
  header = bytes_at text p.header;
  body = bytes_at text p.body;
  below = below;
}

-- A mail as a whole: it is read as the body of a message part without a header.
abbrev pub mail_with : List ℕ → Forest → PlaceText
mail_with text below = record { shape = Message; header = []; body = text; below = below }

-- Such a mail with its own trees.
abbrev pub whole_mail : List ℕ → PlaceText
whole_mail text = mail_with text (forest_of (tree_of text))

-- The tree with a number, of those beside each other.
abbrev pub nth_tree : List ℕ → ℕ → Forest → Option PlaceText
nth_tree text n Bare = None
nth_tree text n (Tree p below beside) =
    if n == 1 then Some (place_of text p below) else nth_tree text (n - 1) beside

-- The part of a message with a number: the parts of a multipart are numbered, and any other message
-- has one part, which is itself.
abbrev pub part_of : List ℕ → ℕ → Shape → Part → Forest → Option PlaceText
part_of text n Leaf p below = if n == 1 then Some (place_of text p below) else None
part_of text n Message p below = if n == 1 then Some (place_of text p below) else None
part_of text n Multipart p below = nth_tree text n below

-- The same of the message that is the first tree.
abbrev pub part_of_message : List ℕ → ℕ → Forest → Option PlaceText
part_of_message text n Bare = None
part_of_message text n (Tree p below beside) = part_of text n p.shape p below

-- The part with a number at a place of a shape: of a message it is one of that message's parts, and a
-- leaf has none.
abbrev pub part_by : List ℕ → ℕ → Shape → Forest → Option PlaceText
part_by text n Leaf below = None
part_by text n Message below = part_of_message text n below
part_by text n Multipart below = nth_tree text n below

-- The same at a place.
abbrev pub part_at : List ℕ → ℕ → PlaceText → Option PlaceText
part_at text n place = part_by text n place.shape place.below

-- What numbers lead to from a place, if there is such a part.
abbrev pub place_at : List ℕ → List ℕ → PlaceText → Option PlaceText
place_at text [] place = Some place
place_at text (n ∷ ns) place = option_and_then (place_at text ns) (part_at text n place)

-- The field has one of these names, in any case.
abbrev pub is_asked : List (List ℕ) → FieldText → Bool
is_asked names field = list_any (λ name. str_eq_ignore_ascii_case name field.name) names

-- The section has the field: all fields, those that are asked for, or all others.
abbrev pub is_shown : SectionText → FieldText → Bool
is_shown asked.Whole field = true
is_shown asked.Header field = true
is_shown (asked.Fields names) field = is_asked names field
is_shown (asked.FieldsNot names) field = not (is_asked names field)
is_shown asked.Text field = true
is_shown asked.Mime field = true

-- The bytes of the fields of a message that a section has, in the header's order, and an empty line.
abbrev pub header_bytes : SectionText → List ℕ → List ℕ
header_bytes what bytes = wholes (filter (is_shown what) (fields_of bytes)) ++ 10 ∷ []

-- The bytes, if the place is a message.
abbrev pub of_message : Shape → List ℕ → Option (List ℕ)
of_message Leaf bytes = None
of_message Message bytes = Some bytes
of_message Multipart bytes = None

-- The bytes of which a section of a place is made, if it is there. Headers and texts are those of a
-- message, and the header that tells of a part has no other name than MIME.
abbrev pub source_in : SectionText → PlaceText → Option (List ℕ)
source_in asked.Whole place = Some place.body
source_in asked.Header place = of_message place.shape (header_bytes asked.Header place.body)
source_in (asked.Fields names) place =
    of_message place.shape (header_bytes (asked.Fields names) place.body)
source_in (asked.FieldsNot names) place =
    of_message place.shape (header_bytes (asked.FieldsNot names) place.body)
source_in asked.Text place = of_message place.shape (body_of place.body)
source_in asked.Mime place = Some (place.header ++ 10 ∷ [])

-- The same of a mail, by the section's numbers.
abbrev pub source_of : List ℕ → Section → Option (List ℕ)
source_of text section =
    option_and_then (source_in section.text) (place_at text section.part (whole_mail text))

-- The octets that are asked for of a section's.
abbrev pub cut : Option Partial → List ℕ → List ℕ
cut None octets = octets
cut (Some partial) octets = take partial.count (drop partial.offset octets)

-- The octets of a section, which are the wire form of just its bytes, as a literal; or `NIL` if it
-- isn't there.
abbrev pub section_value : Option Partial → Option (List ℕ) → List ℕ
section_value partial None = codes "NIL"
section_value partial (Some source) = literal (cut partial (wire_of source))
