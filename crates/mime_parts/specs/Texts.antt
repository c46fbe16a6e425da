-- The decoded bytes of a part, and the text of a mail's body (RFC 2045, section 6, and RFC 2046,
-- section 4.1.2).
use Rattle.std.specs.Prelude.{ℕ, Bool, ◌&&◌, not, List, [], ◌∷◌, ◌++◌, length, codes, if◌then◌else◌}
use Rattle.std.specs.List.{flat_map}
use Rattle.std.specs.Fmt.{decimal}
use Rattle.std.specs.Str.{str_eq_ignore_ascii_case, encode_utf8_all}
use Rattle.std.specs.Str.Lossy.{utf8_lossy}
use Rattle.mime_words.specs.Base64.{unbase64}
use Rattle.mime_parts.specs.declared.part.Encoding.{Encoding}
use Rattle.mime_parts.specs.declared.part.Encoding.TheVariants.{Plain, Base64, Quoted}
use Rattle.mime_parts.specs.declared.part.Shape.{Shape}
use Rattle.mime_parts.specs.declared.part.Shape.TheVariants.{Leaf, Message, Multipart}
use Rattle.mime_parts.specs.declared.part.Part.{Part}
use Rattle.mime_parts.specs.ContentTypes.{param}
use Rattle.mime_parts.specs.QuotedPrintable.{unquoted, ends_with}
use Rattle.mime_parts.specs.Trees.{bytes_at, tree_of}

-- The bytes that a body encodes.
abbrev pub decoded_by : Encoding → List ℕ → List ℕ
decoded_by Plain bytes = bytes
decoded_by Base64 bytes = unbase64 bytes
decoded_by Quoted bytes = unquoted bytes

-- The decoded bytes of a part's body.
unfoldable pub decoded_part : List ℕ → Part → List ℕ
decoded_part text part = decoded_by part.encoding (bytes_at text part.body)

-- The text of bytes in a charset, in UTF-8: a byte of `iso-8859-1` is the character with that
-- number. Bytes of any other charset are UTF-8, with U+FFFD for those that aren't.
abbrev pub read_in : List ℕ → List ℕ → List ℕ
read_in charset bytes = if str_eq_ignore_ascii_case charset (codes "iso-8859-1")
    then encode_utf8_all bytes else utf8_lossy bytes

-- The text with a line feed at its end, which is added where it is missing, also to no text.
abbrev pub with_feed : List ℕ → List ℕ
with_feed text = if ends_with 10 text then text else text ++ 10 ∷ []

-- The part is text, and no attachment.
abbrev pub is_shown : Part → Bool
is_shown part = str_eq_ignore_ascii_case part.major (codes "text") && not part.attached

-- The line that stands for a part that isn't shown: its type, and the number of its decoded bytes.
abbrev pub part_line : Part → ℕ → List ℕ
part_line part len = codes "[-- " ++ part.major ++ codes "/" ++ part.minor ++ codes ", "
    ++ decimal len ++ codes " bytes --]\n"

-- The text of a leaf with these decoded bytes.
abbrev pub leaf_text : Part → List ℕ → List ℕ
leaf_text part bytes =
    if is_shown part then with_feed (read_in (param (codes "charset") part.params) bytes)
    else part_line part (length bytes)

-- A text, if it is that of a leaf. Parts of the other shapes have none.
abbrev pub text_by : Shape → List ℕ → List ℕ
text_by Leaf text = text
text_by Message text = []
text_by Multipart text = []

-- The text of a part: only leaves have one.
abbrev pub part_text : List ℕ → Part → List ℕ
part_text text part = text_by part.shape (leaf_text part (decoded_part text part))

-- The body text of a mail: the texts of its leaves, in order.
unfoldable pub body_text_of : List ℕ → List ℕ
body_text_of text = flat_map (part_text text) (tree_of text)
