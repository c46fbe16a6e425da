-- The words of a mail, by which it is searched.
use Rattle.std.specs.Prelude.{ℕ, List, [], codes, Option, Some, None, if◌then◌else◌}
use Rattle.std.specs.List.{flat_map}
use Rattle.mime_words.specs.Decoding.{decoded}
use Rattle.text_words.specs.Words.{words_of}
use Rattle.text_words.specs.Sets.{word_set}
use Rattle.text_words.specs.declared.word_lists.WordLists.{WordLists}
use Rattle.mime_parts.specs.declared.part.Part.{Part}
use Rattle.mime_parts.specs.declared.part.Shape.{Shape}
use Rattle.mime_parts.specs.declared.part.Shape.TheVariants.{Leaf, Message, Multipart}
use Rattle.mime_parts.specs.ContentTypes.{param}
use Rattle.mime_parts.specs.Headings.{flat_first}
use Rattle.mime_parts.specs.Texts.{decoded_part, read_in, is_shown}
use Rattle.mime_parts.specs.Trees.{tree_of}

-- The words of a flat value, whose encoded words are decoded (RFC 2047). Without a value there are
-- none.
abbrev pub value_words : Option (List ℕ) → List (List ℕ)
value_words None = []
value_words (Some value) = words_of (decoded value)

-- The words of the first field with a name.
abbrev pub field_words : List ℕ → List ℕ → List (List ℕ)
field_words name text = value_words (flat_first name text)

-- The words of a leaf with these decoded bytes: those of its text, if it is shown as text. An
-- attachment, and a leaf of another type, has none.
abbrev pub leaf_words : Part → List ℕ → List (List ℕ)
leaf_words part bytes =
    if is_shown part then words_of (read_in (param (codes "charset") part.params) bytes) else []

-- Words, if they are those of a leaf. Parts of the other shapes have none.
abbrev pub words_by : Shape → List (List ℕ) → List (List ℕ)
words_by Leaf words = words
words_by Message words = []
words_by Multipart words = []

-- The words of a part: only leaves have some.
abbrev pub part_words : List ℕ → Part → List (List ℕ)
part_words text part = words_by part.shape (leaf_words part (decoded_part text part))

-- The words of a mail's text: those of its leaves, in order.
abbrev pub body_words : List ℕ → List (List ℕ)
body_words text = flat_map (part_words text) (tree_of text)

-- The words of a mail: of its first Subject field, of its first From field, and of its text, each
-- list in order and without repeats.
unfoldable pub mail_words : List ℕ → WordLists
mail_words text = record {
  subject = word_set (field_words (codes "Subject") text);
  from = word_set (field_words (codes "From") text);
  body = word_set (body_words text);
}
