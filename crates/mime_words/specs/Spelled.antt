-- Values that are spelled from encoded words and text (RFC 2047, sections 2 to 6), and what they
-- say.
use Rattle.std.specs.Prelude.{◌≡◌, ◌≢◌, ◌⊎◌, ◌<◌, ◌≤◌, ℕ, ◌+◌, ◌*◌, Bool, true, false, ◌&&◌, not, ◌==◌, nat_le, List, [], ◌∷◌, ◌++◌, length, drop, map, slice_index, replicate, codes, if◌then◌else◌}
use Rattle.std.specs.List.{flat_map, list_all, All}
use Rattle.std.specs.Str.{encode_utf8_all, str_to_ascii_lowercase}
use Rattle.std.specs.Str.Lossy.{utf8_lossy}
use Rattle.mime_words.specs.declared.charset.Charset.{Charset}
use Rattle.mime_words.specs.declared.charset.Charset.TheVariants.{Utf8, UsAscii, Latin1}
use Rattle.mime_words.specs.Quoted.{unquoted}
use Rattle.mime_words.specs.Decoding.{decoded}
use Rattle.mime_words.specs.Laws.{HasNoOpening, IsBase64Of}

-- A part of a text in Q: a byte as it is, an underscore, `=` and the two hexadecimal digits of a
-- byte, or `=` alone.
pub data EncodedPart : Type 0 where
  Itself : ℕ → EncodedPart
  Underscore : EncodedPart
  Digits : (high : ℕ) → (low : ℕ) → (first : ℕ) → (second : ℕ) → EncodedPart
  Equals : EncodedPart

-- A byte that is itself in Q: printable ASCII but a space, `=`, `?` and `_`.
abbrev pub is_itself : ℕ → Bool
is_itself b = nat_le 33 b && nat_le b 126 && not (b == 61) && not (b == 63) && not (b == 95)

-- A hexadecimal digit of a number, a letter in either case.
abbrev pub IsDigit : ℕ → ℕ → Type 0
IsDigit n c = ((n < 10) × (c ≡ 48 + n)) ⊎ ((10 ≤ n) × (n < 16) × ((c ≡ 55 + n) ⊎ (c ≡ 87 + n)))

-- The bytes of parts of a text in Q.
abbrev pub quoted_bytes : List EncodedPart → List ℕ
quoted_bytes [] = []
quoted_bytes (Itself b ∷ parts) = b ∷ quoted_bytes parts
quoted_bytes (Underscore ∷ parts) = 95 ∷ quoted_bytes parts
quoted_bytes (Digits high low first second ∷ parts) = 61 ∷ first ∷ second ∷ quoted_bytes parts
quoted_bytes (Equals ∷ parts) = 61 ∷ quoted_bytes parts

-- The bytes start with two hexadecimal digits.
abbrev pub BeginsWithDigits : List ℕ → Type 0
BeginsWithDigits bytes = (high : ℕ) × (low : ℕ) × IsDigit high (slice_index bytes 0)
    × IsDigit low (slice_index bytes 1)

-- Parts of a text in Q. A lone `=` has no two digits after it.
abbrev pub AreEncodedParts : List EncodedPart → Type 0
AreEncodedParts [] = Unit {0}
AreEncodedParts (Itself b ∷ parts) = (is_itself b ≡ true) × AreEncodedParts parts
AreEncodedParts (Underscore ∷ parts) = AreEncodedParts parts
AreEncodedParts (Digits high low first second ∷ parts) = IsDigit high first × IsDigit low second
    × AreEncodedParts parts
AreEncodedParts (Equals ∷ parts) = (BeginsWithDigits (quoted_bytes parts) → ⊥) × AreEncodedParts parts

-- What such parts say: an underscore says a space.
abbrev pub quoted_said : List EncodedPart → List ℕ
quoted_said [] = []
quoted_said (Itself b ∷ parts) = b ∷ quoted_said parts
quoted_said (Underscore ∷ parts) = 32 ∷ quoted_said parts
quoted_said (Digits high low first second ∷ parts) = (16 * high + low) ∷ quoted_said parts
quoted_said (Equals ∷ parts) = 61 ∷ quoted_said parts

-- No `=` in a text has two hexadecimal digits after it.
abbrev pub HasNoDigits : List ℕ → Type 0
HasNoDigits text = (k : ℕ) → slice_index text k ≡ 61 → BeginsWithDigits (drop (k + 1) text) → ⊥

-- In a text in Q, each `=` stays if none has two hexadecimal digits after it. Underscores are
-- spaces, and all other bytes stay too.
abbrev pub LoneEqualsStays : Type 0
LoneEqualsStays = (text : List ℕ) → HasNoDigits text
    → unquoted text ≡ map (λ b. if b == 95 then 32 else b) text

-- A byte of an encoded text: printable ASCII but a space and `?`.
abbrev pub IsTextByte : ℕ → Type 0
IsTextByte b = (33 ≤ b) × (b ≤ 126) × (b ≢ 63)

-- The text of a word, in Q or in base64.
pub data Coded : Type 0 where
  InQ : List EncodedPart → Coded
  InBase64 : (bytes : List ℕ) → (text : List ℕ) → Coded

-- A text that may stand in a word.
abbrev pub IsCoded : Coded → Type 0
IsCoded (InQ parts) = AreEncodedParts parts
IsCoded (InBase64 bytes text) = IsBase64Of bytes text × All IsTextByte text

-- The bytes of such a text.
abbrev pub coded_bytes : Coded → List ℕ
coded_bytes (InQ parts) = quoted_bytes parts
coded_bytes (InBase64 bytes text) = text

-- The bytes that such a text encodes.
abbrev pub coded_said : Coded → List ℕ
coded_said (InQ parts) = quoted_said parts
coded_said (InBase64 bytes text) = bytes

-- The letter of a text's encoding, in either case.
abbrev pub IsLetter : Coded → ℕ → Type 0
IsLetter (InQ parts) letter = (letter ≡ 81) ⊎ (letter ≡ 113)
IsLetter (InBase64 bytes text) letter = (letter ≡ 66) ⊎ (letter ≡ 98)

-- The name of a charset, its letters in any case.
abbrev pub NamesCharset : Charset → List ℕ → Type 0
NamesCharset Utf8 name = str_to_ascii_lowercase name ≡ codes "utf-8"
NamesCharset UsAscii name = str_to_ascii_lowercase name ≡ codes "us-ascii"
NamesCharset Latin1 name = str_to_ascii_lowercase name ≡ codes "iso-8859-1"

-- An encoded word, and the number of spaces before it.
pub record WrittenWord : Type 0 where
  pub gap : ℕ
  pub name : List ℕ
  pub letter : ℕ
  pub coded : Coded

-- A word of this charset.
pub record IsEncodedWord (charset : Charset) (word : WrittenWord) : Type 0 where
  pub name : NamesCharset charset word.name
  pub letter : IsLetter word.coded word.letter
  pub coded : IsCoded word.coded

-- The bytes of a word: `=?NAME?LETTER?TEXT?=`.
abbrev pub word_bytes : WrittenWord → List ℕ
word_bytes word =
    61 ∷ 63 ∷ (word.name ++ 63 ∷ word.letter ∷ 63 ∷ (coded_bytes word.coded ++ 63 ∷ 61 ∷ []))

-- The bytes of a word with the spaces before it.
abbrev pub spaced_word : WrittenWord → List ℕ
spaced_word word = replicate word.gap 32 ++ word_bytes word

-- The bytes that a word encodes.
abbrev pub word_said : WrittenWord → List ℕ
word_said word = coded_said word.coded

-- An encoded word of any charset: the charset's name, the encoding's letter and the encoded text.
pub record AnyWord : Type 0 where
  pub name : List ℕ
  pub letter : ℕ
  pub text : List ℕ

-- The bytes of a word of any charset.
abbrev pub any_bytes : AnyWord → List ℕ
any_bytes word = 61 ∷ 63 ∷ (word.name ++ 63 ∷ word.letter ∷ 63 ∷ (word.text ++ 63 ∷ 61 ∷ []))

-- A byte of a charset's name: any but a space and `?`.
abbrev pub IsCharsetByte : ℕ → Type 0
IsCharsetByte b = (b ≢ 32) × (b ≢ 63)

-- A word of any charset: its name has one or more bytes, and its letter is B or Q in either case.
pub record IsAnyWord (word : AnyWord) : Type 0 where
  pub some : 0 < length word.name
  pub name : All IsCharsetByte word.name
  pub letter : ((word.letter ≡ 66) ⊎ (word.letter ≡ 98)) ⊎ ((word.letter ≡ 81) ⊎ (word.letter ≡ 113))
  pub text : All IsTextByte word.text

-- The bytes start with no word.
abbrev pub BeginsNoWord : List ℕ → Type 0
BeginsNoWord bytes = (word : AnyWord) (more : List ℕ) → IsAnyWord word
    → bytes ≡ any_bytes word ++ more → ⊥

-- A part of the text outside of words that are read: bytes without `=?`, a word of a charset that
-- isn't read, or `=` alone that begins no word.
pub data OuterPart : Type 0 where
  Stretch : List ℕ → OuterPart
  Foreign : AnyWord → OuterPart
  Stray : OuterPart

-- The bytes of a part of such a text.
abbrev pub outer_bytes : OuterPart → List ℕ
outer_bytes (Stretch text) = text
outer_bytes (Foreign word) = any_bytes word
outer_bytes Stray = 61 ∷ []

-- The bytes of parts of such a text, one after another.
abbrev pub outer_text : List OuterPart → List ℕ
outer_text parts = flat_map outer_bytes parts

-- The first part is no bytes without `=?`.
abbrev pub IsNoStretch : List OuterPart → Type 0
IsNoStretch (Stretch text ∷ later) = ⊥
IsNoStretch _ = Unit {0}

-- Parts of such a text, with bytes after them. No two neighbours are both bytes without `=?`.
abbrev pub AreOuter : List OuterPart → List ℕ → Type 0
AreOuter [] after = Unit {0}
AreOuter (Stretch text ∷ later) after = HasNoOpening text × IsNoStretch later
    × AreOuter later after
AreOuter (Foreign word ∷ later) after = IsAnyWord word
    × ((charset : Charset) → NamesCharset charset word.name → ⊥) × AreOuter later after
AreOuter (Stray ∷ later) after = BeginsNoWord (61 ∷ (outer_text later ++ after))
    × AreOuter later after

-- A part of a value: text outside of words that are read, or words of one charset.
pub data Run : Type 0 where
  Plain : List OuterPart → Run
  Words : Charset → WrittenWord → List WrittenWord → Run

-- The bytes of a part of a value.
abbrev pub run_bytes : Run → List ℕ
run_bytes (Plain outer) = outer_text outer
run_bytes (Words charset first more) = spaced_word first ++ flat_map spaced_word more

-- The characters that bytes are in a charset.
abbrev pub read_in : Charset → List ℕ → List ℕ
read_in Utf8 bytes = utf8_lossy bytes
read_in UsAscii bytes = utf8_lossy bytes
read_in Latin1 bytes = encode_utf8_all bytes

-- What a part says: text is read by itself. The bytes of words are joined and then read, and the
-- spaces before them say nothing.
abbrev pub run_said : Run → List ℕ
run_said (Plain outer) = utf8_lossy (outer_text outer)
run_said (Words charset first more) = read_in charset (word_said first ++ flat_map word_said more)

-- What comes before a part.
pub data Before : Type 0 where
  Start : Before
  AfterText : Before
  AfterWords : Charset → Before

-- The text is only spaces.
abbrev pub is_all_spaces : List ℕ → Bool
is_all_spaces text = list_all (λ b. b == 32) text

-- A text between words isn't only spaces.
abbrev pub IsNoGap : Before → List ℕ → List Run → Type 0
IsNoGap (AfterWords charset) text (next ∷ later) = is_all_spaces text ≡ false
IsNoGap _ _ _ = Unit {0}

-- No two neighbours are both texts.
abbrev pub MayBeText : Before → Type 0
MayBeText Start = Unit {0}
MayBeText AfterText = ⊥
MayBeText (AfterWords charset) = Unit {0}

-- Words have spaces before them only if they come after other words, and those have another
-- charset.
abbrev pub MayBeWords : Before → Charset → ℕ → Type 0
MayBeWords Start charset gap = gap ≡ 0
MayBeWords AfterText charset gap = gap ≡ 0
MayBeWords (AfterWords other) charset gap = other ≢ charset

-- Each word is one of this charset.
abbrev pub AllWords : Charset → List WrittenWord → Type 0
AllWords charset [] = Unit {0}
AllWords charset (word ∷ words) = IsEncodedWord charset word × AllWords charset words

-- Parts as they may come after another: texts outside of words that are read, and words.
abbrev pub AreRuns : Before → List Run → Type 0
AreRuns before [] = Unit {0}
AreRuns before (Plain outer ∷ later) =
    MayBeText before × (0 < length (outer_text outer)) × AreOuter outer (flat_map run_bytes later)
    × IsNoGap before (outer_text outer) later
    × AreRuns AfterText later
AreRuns before (Words charset first more ∷ later) =
    MayBeWords before charset first.gap × IsEncodedWord charset first × AllWords charset more
    × AreRuns (AfterWords charset) later

-- Decoding a value that is so spelled gives what its parts say: underscores are spaces, the spaces
-- between two words are removed, neighbours of one charset are joined before they are read, and all
-- other text stays, with the words of other charsets in it.
abbrev pub SpelledIsSaid : Type 0
SpelledIsSaid = (runs : List Run) → AreRuns Start runs
    → decoded (flat_map run_bytes runs) ≡ flat_map run_said runs
