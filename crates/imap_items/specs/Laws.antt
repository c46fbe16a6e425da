-- Laws of sections and of keys.
use Rattle.std.specs.Prelude.{◌≡◌, ◌↔◌, ℕ, Bool, true, false, List, [], ◌∷◌, ◌++◌, Some}
use Rattle.mail_reader.specs.Laws.{IsPieceOf}
use Rattle.mime_parts.specs.declared.part.Shape.TheVariants.{Message}
use Rattle.imap_syntax.specs.declared.items.Section.{Section}
use Rattle.imap_syntax.specs.declared.items.SectionText.{SectionText}
use Rattle.imap_syntax.specs.declared.items.SectionText.TheVariants as asked
use Rattle.imap_syntax.specs.Trees.{KeyTree}
use Rattle.imap_items.specs.Sections.{PlaceText, whole_mail, place_at, header_bytes, source_of}
use Rattle.imap_items.specs.Searching.{has_piece}
use Rattle.imap_items.specs.Keys.{MessageText, tree_matches, tree_reads}

-- The fields of a message in a text that a section has, and an empty line.
pub record IsHeaderIn (what : SectionText) (text source : List ℕ) : Type 0 where
  pub message : List ℕ
  pub lies : IsPieceOf message text
  pub is : source ≡ header_bytes what message

-- The header that tells of a part of a text, and an empty line.
pub record IsMimeIn (text source : List ℕ) : Type 0 where
  pub header : List ℕ
  pub lies : IsPieceOf header text
  pub is : source ≡ header ++ 10 ∷ []

-- The bytes of a section, by what is asked for: fields of a message in the text, the header that tells
-- of a part, or one span of the text.
abbrev pub IsSectionOf : SectionText → List ℕ → List ℕ → Type 0
IsSectionOf asked.Whole text source = IsPieceOf source text
IsSectionOf asked.Header text source = IsHeaderIn asked.Header text source
IsSectionOf (asked.Fields names) text source = IsHeaderIn (asked.Fields names) text source
IsSectionOf (asked.FieldsNot names) text source = IsHeaderIn (asked.FieldsNot names) text source
IsSectionOf asked.Text text source = IsPieceOf source text
IsSectionOf asked.Mime text source = IsMimeIn text source

-- The law of sections: each one that is there is such bytes.
abbrev pub SectionsAreSpans : Type 0
SectionsAreSpans = (text source : List ℕ) (section : Section) → source_of text section ≡ Some source
    → IsSectionOf section.text text source

-- What is asked for is told by the body of a message part alone, and not by the header before it.
abbrev pub is_inside : SectionText → Bool
is_inside asked.Whole = true
is_inside asked.Header = true
is_inside (asked.Fields names) = true
is_inside (asked.FieldsNot names) = true
is_inside asked.Text = true
is_inside asked.Mime = false

-- The law of messages inside: a section of a message part is the same section of the message that is
-- its body, as a mail of its own.
abbrev pub InnerMailsAgree : Type 0
InnerMailsAgree = (text numbers : List ℕ) (place : PlaceText) (what : SectionText)
    → place_at text numbers (whole_mail text) ≡ Some place → place.shape ≡ Message
    → is_inside what ≡ true
    → source_of text (record { part = numbers; text = what })
    ≡ source_of place.body (record { part = []; text = what })

-- The law of unread texts: a key that doesn't read the text answers the same of any text.
abbrev pub UnreadTextsAreAlike : Type 0
UnreadTextsAreAlike = (m : MessageText) (text : List ℕ) (key : KeyTree) → tree_reads key ≡ false
    → tree_matches (record m { text = text }) key ≡ tree_matches m key

-- The law of pieces: a text has another in it exactly where that is a piece of it.
abbrev pub PiecesAreFound : Type 0
PiecesAreFound = (piece text : List ℕ) → (has_piece piece text ≡ true) ↔ IsPieceOf piece text
