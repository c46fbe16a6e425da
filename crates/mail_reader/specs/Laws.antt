-- Laws of the storage form, and of the fields and ids of any text.
use Rattle.std.specs.Prelude.{◌≡◌, ◌≢◌, ◌⊎◌, ◌↔◌, ℕ, ◌+◌, ◌<◌, ◌≤◌, true, false, List, [], ◌∷◌, ◌++◌, Some, map, length, slice_index, codes}
use Rattle.std.specs.List.{concat, All, Contains}
use Rattle.std.specs.Str.{str_to_ascii_lowercase}
use Rattle.mail_reader.specs.Lines.{is_field_line, lines_of, after_header}
use Rattle.mail_reader.specs.Fields.{FieldText, fields_of}
use Rattle.mail_reader.specs.Stored.{storage_form, content_of, is_dropped}
use Rattle.mail_reader.specs.Ids.{ids_of, own_id}
use Rattle.mail_reader.specs.Bodies.{body_of}

-- A storage form is its own storage form.
abbrev pub StoredOnce : Type 0
StoredOnce = (bytes text : List ℕ) → storage_form bytes ≡ Some text → storage_form text ≡ Some text

-- The text has a field, ends with a line feed, and has no carriage return directly before a line
-- feed.
pub record IsCleanMail (text : List ℕ) : Type 0 where
  pub field : 0 < length (fields_of text)
  pub ended : (front : List ℕ) × (text ≡ front ++ 10 ∷ [])
  pub no_returns : (k : ℕ) → slice_index text k ≡ 13 → slice_index text (k + 1) ≡ 10 → ⊥

-- Each storage form is clean.
abbrev pub FormsAreClean : Type 0
FormsAreClean = (bytes text : List ℕ) → storage_form bytes ≡ Some text → IsCleanMail text

-- The bytes of the fields of a text, one after another.
abbrev pub wholes : List FieldText → List ℕ
wholes fields = concat (map (λ (field : FieldText). field.whole) fields)

-- The fields of any text, one after another, are its front: each starts at the offset where those
-- before it end.
abbrev pub FieldsAreFront : Type 0
FieldsAreFront = (text : List ℕ)
    → text ≡ wholes (fields_of text) ++ concat (after_header (lines_of text))

-- The fields of a storage form in order, an empty line and the body are the form.
abbrev pub FormIsParts : Type 0
FormIsParts = (bytes text : List ℕ) → storage_form bytes ≡ Some text
    → text ≡ wholes (fields_of text) ++ 10 ∷ body_of text

-- A field on one line that is kept as it is.
pub record IsKeptLine (line : List ℕ) : Type 0 where
  pub content : List ℕ
  pub is : line ≡ content ++ 10 ∷ []
  pub no_feed : (k : ℕ) → slice_index content k ≡ 10 → ⊥
  pub no_return : content_of content ≡ content
  pub field : is_field_line line ≡ true
  pub stays : is_dropped line ≡ false

-- A storage form with a kept field on one line at its front is a storage form.
abbrev pub FieldInFront : Type 0
FieldInFront = (bytes text line : List ℕ) → storage_form bytes ≡ Some text → IsKeptLine line
    → storage_form (line ++ text) ≡ Some (line ++ text)

-- A storage form is at most two bytes longer than what it is made of.
abbrev pub FormsAreShort : Type 0
FormsAreShort = (bytes text : List ℕ) → storage_form bytes ≡ Some text
    → length text ≤ length bytes + 2

-- A byte of an id between its brackets: printable ASCII other than a space, `<` and `>`.
abbrev pub IsIdByte : ℕ → Type 0
IsIdByte b = (33 ≤ b) × (b ≤ 126) × (b ≢ 60) × (b ≢ 62)

-- A piece of 1 to 248 bytes of an id between brackets.
pub record IsMessageId (id : List ℕ) : Type 0 where
  pub inside : List ℕ
  pub is : id ≡ 60 ∷ (inside ++ 62 ∷ [])
  pub some : 1 ≤ length inside
  pub short : length inside ≤ 248
  pub bytes : All IsIdByte inside

-- The line of a Message-ID field with an id.
abbrev pub id_line : List ℕ → List ℕ
id_line id = codes "Message-ID: " ++ (id ++ 10 ∷ [])

-- The own id of a text that starts with such a line is the id in that line.
abbrev pub OwnIdInFront : Type 0
OwnIdInFront = (text id : List ℕ) → IsMessageId id → own_id (id_line id ++ text) ≡ Some id

-- Such a line is a field on one line that is kept as it is.
abbrev pub IdLineIsKept : Type 0
IdLineIsKept = (id : List ℕ) → IsMessageId id → IsKeptLine (id_line id)

-- A piece of a text: the text is some bytes, the piece, and some bytes.
pub record IsPieceOf (piece text : List ℕ) : Type 0 where
  pub before : List ℕ
  pub after : List ℕ
  pub is : text ≡ before ++ (piece ++ after)

-- The ids of a value are just its pieces that are ids.
abbrev pub IdsArePieces : Type 0
IdsArePieces = (value id : List ℕ) → Contains (ids_of value) id ↔ IsMessageId id × IsPieceOf id value

-- The ids come in the order of these pieces, and as often: at each piece that is an id, the ids are
-- those before it, it, and those after it.
abbrev pub IdsInOrder : Type 0
IdsInOrder = (before id after : List ℕ) → IsMessageId id
    → ids_of (before ++ (id ++ after)) ≡ ids_of before ++ id ∷ ids_of after

-- A line feed, or nothing.
abbrev pub IsFeedOrNone : List ℕ → Type 0
IsFeedOrNone bytes = (bytes ≡ []) ⊎ (bytes ≡ 10 ∷ [])

-- A byte of a field's name: printable ASCII other than a space and a colon.
abbrev pub IsFieldNameByte : ℕ → Type 0
IsFieldNameByte b = (33 ≤ b) × (b ≤ 126) × (b ≢ 58)

-- A field that is a piece of a text: its name, a colon, its value, and a line feed or nothing. So
-- the name and the value are pieces of the text too. The name has one or more bytes. Each line feed
-- in the value has a space or a tab after it, so the value doesn't end with one.
pub record IsFieldIn (text : List ℕ) (field : FieldText) : Type 0 where
  pub end : List ℕ
  pub ended : IsFeedOrNone end
  pub whole : field.whole ≡ field.name ++ 58 ∷ (field.value ++ end)
  pub some_name : 0 < length field.name
  pub name_bytes : All IsFieldNameByte field.name
  pub continued : (k : ℕ) → slice_index field.value k ≡ 10 → (slice_index field.value (k + 1) ≡ 32)
      ⊎ (slice_index field.value (k + 1) ≡ 9)
  pub lies : IsPieceOf field.whole text
  pub name : IsPieceOf field.name text
  pub value : IsPieceOf field.value text

-- A text as its parts: the fields in order, an empty line or none, and the body. The own id is a
-- piece of one of the fields.
pub record IsOfParts (text : List ℕ) : Type 0 where
  pub empty_line : List ℕ
  pub is_empty : IsFeedOrNone empty_line
  pub whole : text ≡ wholes (fields_of text) ++ (empty_line ++ body_of text)
  pub fields : (field : FieldText) → Contains (fields_of text) field → IsFieldIn text field
  pub own_id : (id : List ℕ) → own_id text ≡ Some id → (field : FieldText)
      × Contains (fields_of text) field × IsPieceOf id field.value × IsPieceOf id text

-- The fields, the body and the own id of any text are pieces of it.
abbrev pub PartsLieIn : Type 0
PartsLieIn = (text : List ℕ) → IsOfParts text

-- The first field of a list that is named `Message-ID`, in letters of any case.
pub record IsFirstMessageId (fields : List FieldText) (field : FieldText) : Type 0 where
  pub front : List FieldText
  pub later : List FieldText
  pub split : fields ≡ front ++ field ∷ later
  pub others : (other : FieldText) → Contains front other
      → str_to_ascii_lowercase other.name ≢ codes "message-id"
  pub name : str_to_ascii_lowercase field.name ≡ codes "message-id"

-- The first id of that field of a text.
pub record IsOwnId (text id : List ℕ) : Type 0 where
  pub field : FieldText
  pub first : IsFirstMessageId (fields_of text) field
  pub later_ids : List (List ℕ)
  pub ids : ids_of field.value ≡ id ∷ later_ids

-- The own id of a text is just the first id of its first Message-ID field. If that field has none,
-- the text has no own id.
abbrev pub OwnIdIsFirst : Type 0
OwnIdIsFirst = (text id : List ℕ) → (own_id text ≡ Some id) ↔ IsOwnId text id
