-- What the header of an entity says of its body (RFC 2045, sections 5 and 6; RFC 2183).
use Rattle.std.specs.Prelude.{ℕ, Bool, ◌&&◌, ◌||◌, List, take, Option, codes, option_and_then, option_map, unwrap_or, if◌then◌else◌}
use Rattle.std.specs.List.{list_any}
use Rattle.std.specs.Str.{str_eq_ignore_ascii_case, str_to_ascii_lowercase}
use Rattle.mail_reader.specs.Fields.{FieldText, fields_of, first_named}
use Rattle.mail_reader.specs.Values.{flat_of}
use Rattle.mime_parts.specs.declared.part.Encoding.{Encoding}
use Rattle.mime_parts.specs.declared.part.Encoding.TheVariants as encoding
use Rattle.mime_parts.specs.declared.part.Shape.{Shape}
use Rattle.mime_parts.specs.declared.part.Shape.TheVariants.{Leaf, Message, Multipart}
use Rattle.mime_parts.specs.declared.content_type.ContentType.{ContentType}
use Rattle.mime_parts.specs.declared.heading.Heading.{Heading}
use Rattle.mime_parts.specs.Lexemes.{lexemes_of}
use Rattle.mime_parts.specs.ContentTypes.{FirstToken, first_token, type_in, is_type, default_type, opaque_type}

-- The flat value of the first field with a name, if an entity's bytes have one.
abbrev pub flat_first : List ℕ → List ℕ → Option (List ℕ)
flat_first name bytes =
    option_map (λ (field : FieldText). flat_of field.value) (first_named name (fields_of bytes))

-- The type of an entity: that of its first Content-Type field (RFC 2045, section 5), or else the
-- default. `digest` says that the entity is a direct part of a digest.
abbrev pub type_of : Bool → List ℕ → ContentType
type_of digest bytes = unwrap_or (option_and_then type_in (flat_first (codes "Content-Type") bytes))
    (default_type digest)

-- The token at the front of a flat value, in lower case, if it starts with one.
abbrev pub lower_token : List ℕ → Option (List ℕ)
lower_token value =
    option_map (λ (first : FirstToken). str_to_ascii_lowercase first.token)
    (first_token (lexemes_of value))

-- The name of the encoding: the token of the first Content-Transfer-Encoding field, or else `7bit`
-- (RFC 2045, section 6.1).
abbrev pub encoding_name_of : List ℕ → List ℕ
encoding_name_of bytes =
    unwrap_or (option_and_then lower_token (flat_first (codes "Content-Transfer-Encoding") bytes))
    (codes "7bit")

-- A Content-Disposition field whose flat value starts with `attachment`, in any case (RFC 2183,
-- section 2.2).
abbrev pub is_attachment : FieldText → Bool
is_attachment field =
    str_eq_ignore_ascii_case field.name (codes "Content-Disposition")
    && str_eq_ignore_ascii_case (take 10 (flat_of field.value)) (codes "attachment")

-- The heading of an entity with these bytes: its type, the name of its encoding, and whether it is
-- an attachment.
unfoldable pub heading_of : Bool → List ℕ → Heading
heading_of digest bytes = record {
  content_type = type_of digest bytes;
  encoding_name = encoding_name_of bytes;
  attached = list_any is_attachment (fields_of bytes);
}

-- The encodings, by their names in any case (RFC 2045, section 6.1). By any other name the bytes
-- are themselves.
abbrev pub encoding_of : List ℕ → Encoding
encoding_of name =
    if str_eq_ignore_ascii_case name (codes "base64") then encoding.Base64
    else (if str_eq_ignore_ascii_case name (codes "quoted-printable") then encoding.Quoted
    else encoding.Plain)

-- The encoding leaves the bytes as they are, by its own definition (RFC 2045, section 6.2).
abbrev pub is_identity : List ℕ → Bool
is_identity name =
    str_eq_ignore_ascii_case name (codes "7bit") || str_eq_ignore_ascii_case name (codes "8bit")
    || str_eq_ignore_ascii_case name (codes "binary")

-- What an entity is by its heading: a multipart (RFC 2046, section 5.1), a message that isn't
-- encoded (RFC 2046, section 5.2.1), or a leaf.
abbrev pub shape_of : Heading → Shape
shape_of h =
    if str_eq_ignore_ascii_case h.content_type.major (codes "multipart") then Multipart
    else (if is_type h.content_type (codes "message") (codes "rfc822")
    && is_identity h.encoding_name then Message
    else Leaf)

-- The entity is a digest (RFC 2046, section 5.1.5).
abbrev pub is_digest : Heading → Bool
is_digest h = is_type h.content_type (codes "multipart") (codes "digest")

-- The heading of an entity that isn't divided further.
abbrev pub opaque_heading : Heading → Heading
opaque_heading h = record {
  content_type = opaque_type h.content_type;
  encoding_name = h.encoding_name;
  attached = h.attached;
}
