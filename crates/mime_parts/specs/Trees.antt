-- The tree of a mail's parts (RFC 2045, section 2.4, and RFC 2046, sections 5.1 and 5.2).
use Rattle.std.specs.Prelude.{ℕ, suc, zero, ◌+◌, ◌-◌, ◌≤◌, Bool, true, false, ◌||◌, ◌==◌, List, [], ◌∷◌, ◌++◌, length, slice_range, if◌then◌else◌, codes}
use Rattle.mail_reader.specs.Lines.{lines_of}
use Rattle.mail_reader.specs.Fields.{fields_of}
use Rattle.mail_reader.specs.Bodies.{body_of}
use Rattle.mail_reader.specs.Laws.{wholes}
use Rattle.mime_parts.specs.declared.part.Span.{Span}
use Rattle.mime_parts.specs.declared.part.Part.{Part}
use Rattle.mime_parts.specs.declared.part.Shape.{Shape}
use Rattle.mime_parts.specs.declared.part.Shape.TheVariants.{Leaf, Message, Multipart}
use Rattle.mime_parts.specs.declared.heading.Heading.{Heading}
use Rattle.mime_parts.specs.ContentTypes.{param}
use Rattle.mime_parts.specs.Headings.{heading_of, shape_of, is_digest, opaque_heading, encoding_of}
use Rattle.mime_parts.specs.Delimiters.{span_of, cuts_from, is_boundary}
use Rattle.mime_parts.specs.Dividing.{at_most}

-- The span is in the text.
pub record IsIn (text : List ℕ) (s : Span) : Type 0 where
  pub ordered : s.start ≤ s.end
  pub within : s.end ≤ length text

-- The header and the body of a part are in the text.
pub record IsPartOf (text : List ℕ) (part : Part) : Type 0 where
  pub header : IsIn text part.header
  pub body : IsIn text part.body

-- The bytes of a span.
abbrev pub bytes_at : List ℕ → Span → List ℕ
bytes_at text s = slice_range text s.start s.end

-- The span of an entity's header: its fields, from its start on (RFC 5322, section 2.2).
abbrev pub header_span : List ℕ → Span → Span
header_span text s = span_of s.start (s.start + length (wholes (fields_of (bytes_at text s))))

-- The span of an entity's body: what follows its header and the empty line after it, up to its end.
abbrev pub body_span : List ℕ → Span → Span
body_span text s = span_of (s.end - length (body_of (bytes_at text s))) s.end

-- The parts of a body that a boundary divides.
abbrev pub divided : List ℕ → List ℕ → Span → List Span
divided boundary text body =
    if is_boundary boundary
    then (cuts_from boundary body.start (lines_of (bytes_at text body))).parts else []

-- The direct parts of an entity, by its shape, the parameters of its type and its body: a message
-- has one, and those of a multipart are divided by its boundary.
abbrev pub direct_parts : Shape → List (List ℕ) → List ℕ → Span → List Span
direct_parts Leaf params text body = []
direct_parts Message params text body = body ∷ []
direct_parts Multipart params text body = divided (param (codes "boundary") params) text body

-- The heading of an entity that stands at a span.
abbrev pub heading_at : List ℕ → Bool → Span → Heading
heading_at text digest s = heading_of digest (bytes_at text s)

-- At most so many entities are visited.
abbrev pub max_count : ℕ
max_count = 1000

-- The direct parts of an entity that are visited, where so many entities are known: all of them, or
-- none, if with them there were more than 1,000.
abbrev pub visited_parts : List ℕ → Bool → ℕ → Span → List Span
visited_parts text digest count s =
    at_most (max_count - count) (direct_parts (shape_of (heading_at text digest s))
    (heading_at text digest s).content_type.params text (body_span text s))

-- An entity of a shape isn't divided further, though it might be: at the last level each one, and
-- above it a message or a multipart of which no part is visited.
abbrev pub is_opaque : ℕ → Shape → Bool → Bool
is_opaque levels Leaf is_empty = levels == 0
is_opaque levels Message is_empty = levels == 0 || is_empty
is_opaque levels Multipart is_empty = levels == 0 || is_empty

-- The part with a heading, of a shape, whose header and body are at these spans.
abbrev pub part_with : Heading → Shape → Span → Span → ℕ → Part
part_with h shape header body depth = record {
  major = h.content_type.major;
  minor = h.content_type.minor;
  params = h.content_type.params;
  encoding = encoding_of h.encoding_name;
  encoding_name = h.encoding_name;
  attached = h.attached;
  header = header;
  body = body;
  shape = shape;
  depth = depth;
}

-- An opaque entity is a leaf of type `application/octet-stream`.
abbrev pub part_by : Bool → Heading → Span → Span → ℕ → Part
part_by true h header body depth = part_with (opaque_heading h) Leaf header body depth
part_by false h header body depth = part_with h (shape_of h) header body depth

-- The part that an entity is, where so many levels may be below it, and these parts are visited.
-- The message is at depth 1, and depth 20 is the last.
abbrev pub part_at : List ℕ → ℕ → Bool → List Span → Span → Part
part_at text levels digest parts s =
    part_by (is_opaque levels (shape_of (heading_at text digest s)) (length parts == 0))
    (heading_at text digest s) (header_span text s) (body_span text s) (20 - levels)

-- What a visit tells, and how many entities are known after it.
pub record Visit : Type 0 where
  pub count : ℕ
  pub parts : List Part

-- The visit of these two parts.
abbrev pub visit : ℕ → List Part → Visit
visit count parts = record { count = count; parts = parts }

-- Entities one after another, each with the count after the one before it.
abbrev pub visit_all : (ℕ → Span → Visit) → ℕ → List Span → Visit
visit_all each count [] = visit count []
visit_all each count (s ∷ ss) =
    let first = each count s in
    let later = visit_all each first.count ss in
    visit later.count (first.parts ++ later.parts)

-- An entity and then all below it, where so many levels may be below it and so many entities are
-- known. Its direct parts are known before any of them is visited.
unfoldable pub visit_of : List ℕ → ℕ → Bool → ℕ → Span → Visit
visit_of text zero digest count s = visit count (part_at text zero digest [] s ∷ [])
visit_of text (suc levels) digest count s =
    let parts = visited_parts text digest count s in
    let below = visit_all (visit_of text levels (is_digest (heading_at text digest s)))
    (count + length parts) parts in
    visit below.count (part_at text (suc levels) digest parts s ∷ below.parts)

-- The entities of a text, each before its parts, and parts in order. The text itself is the first.
unfoldable pub tree_of : List ℕ → List Part
tree_of text = (visit_of text 19 false 1 (span_of 0 (length text))).parts
