-- The lexemes of a structured field's flat value (RFC 2045, section 5.1, and RFC 822, section 3.3).
use Rattle.std.specs.Prelude.{ℕ, ◌+◌, ◌-◌, Bool, true, false, ◌&&◌, ◌||◌, not, ◌==◌, nat_le, List, [], ◌∷◌, if◌then◌else◌}
use Rattle.mail_address.specs.declared.place.Place.{Place}
use Rattle.mail_address.specs.declared.place.Place.TheVariants.{Outside, Quoted, Comment, CommentPair}
use Rattle.mail_address.specs.Places.{next_place}
use Rattle.mime_parts.specs.declared.lexemes.Mark.{Mark}
use Rattle.mime_parts.specs.declared.lexemes.Mark.TheVariants.{Semicolon, Slash, Equals, Other}

-- The byte is one of `()<>@,;:\"/[]?=`.
abbrev pub is_special : ℕ → Bool
is_special b =
    b == 34 || b == 40 || b == 41 || b == 44 || b == 47 || (nat_le 58 b && nat_le b 64)
    || (nat_le 91 b && nat_le b 93)

-- A byte of a token: printable ASCII other than space and the special bytes (RFC 2045, section
-- 5.1).
abbrev pub is_token_byte : ℕ → Bool
is_token_byte b = nat_le 33 b && nat_le b 126 && not (is_special b)

-- The mark that a byte is.
abbrev pub mark_of : ℕ → Mark
mark_of b =
    if b == 59 then Semicolon
    else (if b == 47 then Slash
    else (if b == 61 then Equals else Other))

-- What a byte of a value is.
pub data Role : Type 0 where
  -- A byte of a token or of a quoted string, which goes on with the bytes after it.
  Content : Role
  -- The quote that opens a quoted string.
  Opening : Role
  -- A space, a byte of a comment, or the quote that ends a quoted string.
  Gap : Role
  -- A byte that is a lexeme by itself.
  Single : Mark → Role

-- The byte separates lexemes: it is a space outside, or a byte of a comment.
abbrev pub is_gap : Place → ℕ → Bool
is_gap Outside b = b == 32 || b == 40
is_gap (Comment depth) b = true
is_gap (CommentPair depth) b = true
is_gap _ b = false

-- The role of a byte outside of quoted strings and comments.
abbrev pub plain_role : ℕ → Role
plain_role b =
    if is_token_byte b then Content
    else (if b == 34 then Opening
    else (if is_gap Outside b then Gap else Single (mark_of b)))

-- The role of a byte at its place. After a backslash it is content.
abbrev pub role_of : Place → ℕ → Role
role_of Outside b = plain_role b
role_of Quoted b = if b == 34 then Gap else Content
role_of (Comment depth) b = Gap
role_of (CommentPair depth) b = Gap
role_of _ b = Content

-- A lexeme: a token, the inside of a quoted string as it is written, or a mark.
pub data LexemeText : Type 0 where
  TokenText QuotedText : List ℕ → LexemeText
  MarkText : Mark → LexemeText

-- The bytes at the front that go on with a token or a quoted string before them, and the lexemes
-- after these.
pub record Lexed : Type 0 where
  pub front : List ℕ
  pub later : List LexemeText

-- The bytes and the lexemes of these two parts.
abbrev pub lexed : List ℕ → List LexemeText → Lexed
lexed front later = record { front = front; later = later }

-- The lexemes of bytes that start outside: those at the front are a token, if there are any.
abbrev pub token_before : List ℕ → List LexemeText → List LexemeText
token_before [] later = later
token_before (b ∷ bs) later = TokenText (b ∷ bs) ∷ later

-- All lexemes of bytes that start outside, where those at the front are a token.
abbrev pub closed : Lexed → List LexemeText
closed l = token_before l.front l.later

-- A byte of a role before bytes.
abbrev pub lexed_by : Role → ℕ → Lexed → Lexed
lexed_by Content b l = lexed (b ∷ l.front) l.later
lexed_by Opening b l = lexed [] (QuotedText l.front ∷ l.later)
lexed_by Gap b l = lexed [] (closed l)
lexed_by (Single mark) b l = lexed [] (MarkText mark ∷ closed l)

-- Bytes from a place on. A quoted string or a comment that is still open ends with the bytes.
abbrev pub lexed_from : Place → List ℕ → Lexed
lexed_from place [] = lexed [] []
lexed_from place (b ∷ bs) = lexed_by (role_of place b) b (lexed_from (next_place place b) bs)

-- The lexemes of a value, in order. Spaces and comments between them are skipped.
abbrev pub lexemes_of : List ℕ → List LexemeText
lexemes_of value = closed (lexed_from Outside value)

-- The text that the inside of a quoted string says: a backslash goes, and its byte stays (RFC 822,
-- section 3.3).
abbrev pub unescaped : List ℕ → List ℕ
unescaped [] = []
unescaped (b ∷ []) = if b == 92 then [] else b ∷ []
unescaped (b ∷ c ∷ bs) = if b == 92 then c ∷ unescaped bs else b ∷ unescaped (c ∷ bs)
