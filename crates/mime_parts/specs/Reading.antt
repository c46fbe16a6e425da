-- Private: what is found at the front of a value.
use Rattle.std.specs.Prelude.{◌≡◌, ℕ, ◌<◌, List, [], ◌∷◌, ◌++◌, length, Option, Some, None, MatchOption, option_map}
use Rattle.std.specs.Borrow.{Bor}
use Rattle.mime_parts.specs.declared.params.Expected.{Expected}
use Rattle.mime_parts.specs.declared.content_type.Front.{Front}
use Rattle.mime_parts.specs.ContentTypes.{LexemeStep, Opening, first_token, after_slash, opening_of}
use Rattle.mail_address.specs.declared.place.Place.TheVariants as place
use Rattle.mime_parts.specs.declared.lexemes.Lexeme.{Lexeme}
use Rattle.mime_parts.specs.declared.lexemes.Lexeme.TheVariants.{Token, Quoted, Mark}
use Rattle.mime_parts.specs.Lexemes.{LexemeText, TokenText, QuotedText, MarkText, lexed, lexed_from, lexemes_of, unescaped}

-- The bytes of a borrowed lexeme.
abbrev pub shown : Lexeme → LexemeText
shown (Token token) = TokenText token.now
shown (Quoted inside) = QuotedText inside.now
shown (Mark mark) = MarkText mark

-- The first lexeme of a value, and the bytes with the others.
abbrev pub IsFirstLexeme : List ℕ → Option (Lexeme × Bor (List ℕ)) → Type 0
IsFirstLexeme value found =
    MatchOption found (lexemes_of value ≡ [])
    (λ first. (lexemes_of value ≡ shown first.0 ∷ lexemes_of first.1.now)
    × (length first.1.now < length value))

-- Bytes in a quoted string are its inside, and the bytes after the quote that ends it.
abbrev pub IsQuoted : List ℕ → List ℕ → List ℕ → Type 0
IsQuoted bytes inside rest = lexed_from place.Quoted bytes ≡ lexed inside (lexemes_of rest)

-- The first byte that the inside of a quoted string says, and the bytes with the others.
abbrev pub IsFirstSaid : List ℕ → Option (ℕ × Bor (List ℕ)) → Type 0
IsFirstSaid inside found =
    MatchOption found (unescaped inside ≡ [])
    (λ first. (unescaped inside ≡ first.0 ∷ unescaped first.1.now)
    × (length first.1.now < length inside))

-- A lexeme is taken: what it adds is appended, and what is then expected is the result. `None` only
-- if it isn't what was expected.
abbrev pub TakesLexeme : Option LexemeStep → List (List ℕ) → List (List ℕ) → Option Expected → Type 0
TakesLexeme None old new found = found ≡ None
TakesLexeme (Some s) old new found = (found ≡ Some s.next) × (new ≡ old ++ s.added)

-- A token at the front of a value, and the bytes with the lexemes after it. `None` if the value
-- doesn't start with a token.
abbrev pub IsFirstToken : List ℕ → Option (Bor (List ℕ) × Bor (List ℕ)) → Type 0
IsFirstToken value found =
    MatchOption found (first_token (lexemes_of value) ≡ None) (λ first. first_token (lexemes_of value)
    ≡ Some (record { token = first.0.now; later = lexemes_of first.1.now }))

-- The bytes after a slash at the front of a value. `None` if the value doesn't start with one.
abbrev pub IsAfterSlash : List ℕ → Option (Bor (List ℕ)) → Type 0
IsAfterSlash value found = MatchOption found (after_slash (lexemes_of value) ≡ None)
    (λ rest. after_slash (lexemes_of value) ≡ Some (lexemes_of rest.now))

-- The type at the front of a value, with borrowed names.
abbrev pub shown_front : Front → Opening
shown_front front =
    record { major = front.major.now; minor = front.minor.now; later = lexemes_of front.rest.now }

-- The front of a type was found with which a value starts, or there is none.
abbrev pub IsTypeFront : List ℕ → Option Front → Type 0
IsTypeFront value found = option_map shown_front found ≡ opening_of (lexemes_of value)
