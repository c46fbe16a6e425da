-- The structure of a mail's parts (RFC 3501, section 7.4.2, BODY).
use Rattle.std.specs.Prelude.{ℕ, Bool, ◌&&◌, List, [], ◌++◌, length, codes, if◌then◌else◌}
use Rattle.std.specs.Fmt.{decimal}
use Rattle.std.specs.Str.{str_eq_ignore_ascii_case}
use Rattle.mail_forms.specs.WireForms.{wire_of, feeds_of}
use Rattle.mime_parts.specs.declared.part.Part.{Part}
use Rattle.mime_parts.specs.declared.part.Shape.{Shape}
use Rattle.mime_parts.specs.declared.part.Shape.TheVariants.{Leaf, Message, Multipart}
use Rattle.mime_parts.specs.Headings.{flat_first}
use Rattle.mime_parts.specs.Trees.{bytes_at, tree_of}
use Rattle.imap_structure.specs.Strings.{string_of, strings_of}
use Rattle.imap_structure.specs.Envelopes.{field_text, envelope_of}
use Rattle.imap_structure.specs.Forests.{Forest, Bare, Tree, forest_of}

-- The part is of type `message/rfc822`. A leaf of that type is a message that is encoded, of which no
-- envelope can be told.
abbrev pub is_mail : Part → Bool
is_mail p = str_eq_ignore_ascii_case p.major (codes "message")
    && str_eq_ignore_ascii_case p.minor (codes "rfc822")

-- The type that a leaf is told to have: that of its header, but `application` for such a message.
abbrev pub told_major : Part → List ℕ
told_major p = if is_mail p then codes "application" else p.major

-- Its subtype likewise.
abbrev pub told_minor : Part → List ℕ
told_minor p = if is_mail p then codes "octet-stream" else p.minor

-- A type with its parameters (RFC 2045, section 5.1).
unfoldable pub type_facts : List ℕ → List ℕ → Part → List ℕ
type_facts major minor p =
    string_of major ++ codes " " ++ string_of minor ++ codes " " ++ strings_of p.params

-- The id and the description of a part (RFC 2045, sections 7 and 8).
unfoldable pub name_facts : List ℕ → Part → List ℕ
name_facts text p =
    field_text (codes "Content-ID") (bytes_at text p.header)
    ++ codes " " ++ field_text (codes "Content-Description") (bytes_at text p.header)

-- The encoding of a part, and the number of octets of its body as it is sent.
unfoldable pub size_facts : List ℕ → Part → List ℕ
size_facts text p =
    string_of p.encoding_name ++ codes " " ++ decimal (length (wire_of (bytes_at text p.body)))

-- What is told of each part that isn't a multipart.
abbrev pub facts_of : List ℕ → List ℕ → List ℕ → Part → List ℕ
facts_of major minor text p =
    codes "(" ++ type_facts major minor p ++ codes " " ++ name_facts text p ++ codes " "
    ++ size_facts text p

-- The number of lines of a part's body, after a space.
abbrev pub lines_text : List ℕ → Part → List ℕ
lines_text text p = codes " " ++ decimal (feeds_of (bytes_at text p.body))

-- The number of lines of a leaf, if it is text.
abbrev pub leaf_lines : List ℕ → Part → List ℕ
leaf_lines text p =
    if str_eq_ignore_ascii_case p.major (codes "text") then lines_text text p else []

-- What stands before the parts of a part: of a leaf all that is told of it, of a message the envelope
-- of its body at the end.
abbrev pub opening_by : Shape → List ℕ → Part → List ℕ
opening_by Leaf text p =
    facts_of (told_major p) (told_minor p) text p ++ leaf_lines text p ++ codes ")"
opening_by Message text p =
    facts_of p.major p.minor text p ++ codes " " ++ envelope_of (bytes_at text p.body) ++ codes " "
opening_by Multipart text p = codes "("

-- The same by the part's own shape.
abbrev pub opening_of : List ℕ → Part → List ℕ
opening_of text p = opening_by p.shape text p

-- What stands after them: of a message the number of its lines, of a multipart its subtype.
abbrev pub closing_by : Shape → List ℕ → Part → List ℕ
closing_by Leaf text p = []
closing_by Message text p = lines_text text p ++ codes ")"
closing_by Multipart text p = codes " " ++ string_of p.minor ++ codes ")"

-- The same by the part's own shape.
abbrev pub closing_of : List ℕ → Part → List ℕ
closing_of text p = closing_by p.shape text p

-- The structure of trees, one after another: of each what stands before its parts, these, and what
-- stands after them.
abbrev pub structure : List ℕ → Forest → List ℕ
structure text Bare = []
structure text (Tree p below beside) =
    opening_of text p ++ (structure text below ++ (closing_of text p ++ structure text beside))

-- The structure of a mail.
unfoldable pub structure_of : List ℕ → List ℕ
structure_of text = structure text (forest_of (tree_of text))
