-- Texts of commands (RFC 3501, sections 4.3 and 9, string and astring).
use Rattle.std.specs.Prelude.{ℕ, Bool, true, false, ◌&&◌, ◌||◌, ◌==◌, nat_lt, nat_le, List, [], ◌∷◌, length, take, drop, slice_index, Option, Some, None, if◌then◌else◌}
use Rattle.std.specs.List.{list_all}
use Rattle.imap_words.specs.Kinds.{is_octet, is_atom_byte, is_astring_byte}
use Rattle.imap_words.specs.Reading.{◌>>=◌, byte_at, run_at, line_end_at, many_at}
use Rattle.imap_words.specs.Numbers.{number_at}
use Rattle.imap_words.specs.declared.strings.Quoting.{Quoting}
use Rattle.imap_words.specs.declared.strings.Quoting.TheVariants as quoting

-- What an octet is in a quoted text, after a backslash or not (QUOTED-CHAR).
abbrev pub quoting_of : Bool → ℕ → Quoting
quoting_of true b = if b == 34 || b == 92 then quoting.Text else quoting.Wrong
quoting_of false b =
    if b == 34 then quoting.End
    else if b == 92 then quoting.Escape
    else if b == 0 || b == 10 || b == 13 || nat_lt 127 b then quoting.Wrong
    else quoting.Text

-- A text with an octet before it.
abbrev pub put_first : ℕ → Option (List ℕ × List ℕ) → Option (List ℕ × List ℕ)
put_first b None = None
put_first b (Some p) = Some (b ∷ p.0, p.1)

-- The text from an octet on, by what this octet is.
abbrev pub quoted_by : Quoting → ℕ → List ℕ → (Bool → Option (List ℕ × List ℕ)) → Option (List ℕ × List ℕ)
quoted_by quoting.End b bs more = Some ([], bs)
quoted_by quoting.Escape b bs more = more true
quoted_by quoting.Text b bs more = put_first b (more false)
quoted_by quoting.Wrong b bs more = None

-- The text up to the closing quote, without its backslashes, where a backslash may stand before it.
abbrev pub quoted_from : Bool → List ℕ → Option (List ℕ × List ℕ)
quoted_from escaped [] = None
quoted_from escaped (b ∷ bs) = quoted_by (quoting_of escaped b) b bs (λ behind. quoted_from behind bs)

-- A text in quotes (quoted).
unfoldable pub quoted_at : List ℕ → Option (List ℕ × List ℕ)
quoted_at octets = do
  inside ← byte_at 34 octets
  quoted_from false inside

-- So many octets, none of which is NUL.
abbrev pub octets_at : ℕ → List ℕ → Option (List ℕ × List ℕ)
octets_at n octets =
    if nat_le n (length octets) && list_all is_octet (take n octets)
    then Some (take n octets, drop n octets) else None

-- A text whose number of octets is announced (literal).
unfoldable pub literal_at : List ℕ → Option (List ℕ × List ℕ)
literal_at octets = do
  inside ← byte_at 123 octets
  n ← number_at inside
  closed ← byte_at 125 n.1
  text ← line_end_at closed
  octets_at n.0 text

-- A text in quotes, an announced one, or a run of octets of a kind.
unfoldable pub string_at : (ℕ → Bool) → List ℕ → Option (List ℕ × List ℕ)
string_at kind octets =
    if slice_index octets 0 == 34 then quoted_at octets
    else if slice_index octets 0 == 123 then literal_at octets
    else run_at kind octets

-- A text whose bare form has the octets of a bare text (astring).
abbrev pub astring_at : List ℕ → Option (List ℕ × List ℕ)
astring_at octets = string_at is_astring_byte octets

-- One or more such texts with single spaces between them.
abbrev pub astrings_at : List ℕ → Option (List (List ℕ) × List ℕ)
astrings_at octets = many_at astring_at (length octets) octets

-- Such a text after a space.
unfoldable pub argument_at : List ℕ → Option (List ℕ × List ℕ)
argument_at octets = do
  rest ← byte_at 32 octets
  astring_at rest

-- An atom after a space.
unfoldable pub atom_argument_at : List ℕ → Option (List ℕ × List ℕ)
atom_argument_at octets = do
  rest ← byte_at 32 octets
  run_at is_atom_byte rest
