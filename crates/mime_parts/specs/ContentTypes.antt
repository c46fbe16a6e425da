-- The type that a Content-Type field names (RFC 2045, section 5).
use Rattle.std.specs.Prelude.{ℕ, Bool, ◌&&◌, List, [], ◌∷◌, ◌++◌, Option, Some, None, option_and_then, option_map, codes, if◌then◌else◌}
use Rattle.std.specs.Str.{str_eq_ignore_ascii_case, str_to_ascii_lowercase}
use Rattle.mime_parts.specs.declared.lexemes.Mark.{Mark}
use Rattle.mime_parts.specs.declared.lexemes.Mark.TheVariants.{Semicolon, Slash, Equals, Other}
use Rattle.mime_parts.specs.declared.params.Expected.{Expected}
use Rattle.mime_parts.specs.declared.params.Expected.TheVariants as expected
use Rattle.mime_parts.specs.declared.content_type.ContentType.{ContentType}
use Rattle.mime_parts.specs.Lexemes.{LexemeText, TokenText, QuotedText, MarkText, lexemes_of, unescaped}

-- What a lexeme adds to the parameters, and what is expected after it.
pub record LexemeStep : Type 0 where
  pub added : List (List ℕ)
  pub next : Expected

-- Such a step of these two parts.
abbrev pub step : List (List ℕ) → Expected → Option LexemeStep
step added next = Some (record { added = added; next = next })

-- A semicolon is the only mark after a type, a parameter or another semicolon.
abbrev pub mark_after_pair : Mark → Option LexemeStep
mark_after_pair Semicolon = step [] expected.Name
mark_after_pair _ = None

-- An equals sign is the only mark after the name of a parameter.
abbrev pub mark_after_name : Mark → Option LexemeStep
mark_after_name Equals = step [] expected.Value
mark_after_name _ = None

-- After a type and after each parameter a semicolon is expected, and after the semicolon the name
-- of a parameter, in any case. Another semicolon may be there instead. After the name `=` is
-- expected, and then the value: a token or a quoted string. `None` for any other lexeme.
abbrev pub step_of : Expected → LexemeText → Option LexemeStep
step_of expected.Semicolon (MarkText mark) = mark_after_pair mark
step_of expected.Name (TokenText token) = step (str_to_ascii_lowercase token ∷ []) expected.Equals
step_of expected.Name (MarkText mark) = mark_after_pair mark
step_of expected.Equals (MarkText mark) = mark_after_name mark
step_of expected.Value (TokenText token) = step (token ∷ []) expected.Semicolon
step_of expected.Value (QuotedText inside) = step (unescaped inside ∷ []) expected.Semicolon
step_of _ _ = None

-- A value may end after its type, after a parameter and after a semicolon.
abbrev pub end_at : Expected → Option (List (List ℕ))
end_at expected.Semicolon = Some []
end_at expected.Name = Some []
end_at expected.Equals = None
end_at expected.Value = None

-- Texts before those that are read after them, if these are read.
abbrev pub with_front : List (List ℕ) → Option (List (List ℕ)) → Option (List (List ℕ))
with_front front None = None
with_front front (Some later) = Some (front ++ later)

-- What a step adds, before the parameters that are read after it.
abbrev pub after_step : Option LexemeStep → (Expected → Option (List (List ℕ))) → Option (List (List ℕ))
after_step None later = None
after_step (Some s) later = with_front s.added (later s.next)

-- The parameters that lexemes spell: name, value, name, value (RFC 2045, section 5.1). `None` if
-- they spell no parameters.
abbrev pub params_of : Expected → List LexemeText → Option (List (List ℕ))
params_of next [] = end_at next
params_of next (l ∷ ls) = after_step (step_of next l) (λ after. params_of after ls)

-- A token, and the lexemes after it.
pub record FirstToken : Type 0 where
  pub token : List ℕ
  pub later : List LexemeText

-- The token that a lexeme is, if it is one, and the lexemes after it.
abbrev pub token_at : LexemeText → List LexemeText → Option FirstToken
token_at (TokenText token) later = Some (record { token = token; later = later })
token_at (QuotedText inside) later = None
token_at (MarkText mark) later = None

-- The token at the front of lexemes, and the lexemes after it, if they start with one.
abbrev pub first_token : List LexemeText → Option FirstToken
first_token [] = None
first_token (l ∷ ls) = token_at l ls

-- The lexemes after a mark, if it is a slash.
abbrev pub slash_by : Mark → List LexemeText → Option (List LexemeText)
slash_by Slash later = Some later
slash_by _ later = None

-- The lexemes after a lexeme, if it is a slash.
abbrev pub slash_at : LexemeText → List LexemeText → Option (List LexemeText)
slash_at (TokenText token) later = None
slash_at (QuotedText inside) later = None
slash_at (MarkText mark) later = slash_by mark later

-- The lexemes after a slash at the front, if they start with one.
abbrev pub after_slash : List LexemeText → Option (List LexemeText)
after_slash [] = None
after_slash (l ∷ ls) = slash_at l ls

-- `token/token` at the front of lexemes, and the lexemes after it.
pub record Opening : Type 0 where
  pub major : List ℕ
  pub minor : List ℕ
  pub later : List LexemeText

-- A token and another one with the lexemes after it, as the front of a type.
abbrev pub opened : List ℕ → FirstToken → Opening
opened major minor = record { major = major; minor = minor.token; later = minor.later }

-- The front of a type by its first token and the lexemes after the slash.
abbrev pub minor_after : List ℕ → List LexemeText → Option Opening
minor_after major lexemes = option_map (opened major) (first_token lexemes)

-- The front of a type by its first token and the lexemes after that.
abbrev pub opening_after : FirstToken → Option Opening
opening_after major = option_and_then (minor_after major.token) (after_slash major.later)

-- The front of a type with which lexemes start, if they start with one (RFC 2045, section 5.1).
abbrev pub opening_of : List LexemeText → Option Opening
opening_of lexemes = option_and_then opening_after (first_token lexemes)

-- A type and its parameters. Types are compared ignoring case, and kept in lower case (RFC 2045,
-- section 5.1).
abbrev pub type_with : Opening → List (List ℕ) → ContentType
type_with opening params = record {
  major = str_to_ascii_lowercase opening.major;
  minor = str_to_ascii_lowercase opening.minor;
  params = params;
}

-- The type of a front, if the lexemes after it spell parameters and nothing else.
abbrev pub type_after : Opening → Option ContentType
type_after opening = option_map (type_with opening) (params_of expected.Semicolon opening.later)

-- The type that a flat value names: `token/token`, and then parameters, with nothing else in it but
-- spaces and comments. `None` if the value isn't of this form.
abbrev pub type_in : List ℕ → Option ContentType
type_in value = option_and_then type_after (opening_of (lexemes_of value))

-- The value of the first parameter with a name, or nothing if there is none.
abbrev pub param : List ℕ → List (List ℕ) → List ℕ
param name [] = []
param name (n ∷ []) = []
param name (n ∷ v ∷ rest) = if str_eq_ignore_ascii_case n name then v else param name rest

-- The type is this one.
abbrev pub is_type : ContentType → List ℕ → List ℕ → Bool
is_type t major minor =
    str_eq_ignore_ascii_case t.major major && str_eq_ignore_ascii_case t.minor minor

-- The type of an entity that names none, or none that can be read: `text/plain` (RFC 2045, section
-- 5.2). A direct part of a digest is `message/rfc822` (RFC 2046, section 5.1.5).
abbrev pub default_type : Bool → ContentType
default_type digest = if digest
    then record { major = codes "message"; minor = codes "rfc822"; params = [] }
    else record { major = codes "text"; minor = codes "plain"; params = [] }

-- The type of an entity that isn't divided further: `application/octet-stream` (RFC 2046, section
-- 4.5.1), with the parameters of its own type.
abbrev pub opaque_type : ContentType → ContentType
opaque_type t =
    record { major = codes "application"; minor = codes "octet-stream"; params = t.params }
