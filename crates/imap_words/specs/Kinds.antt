-- The kinds of octets of which commands consist (RFC 3501, section 9).
use Rattle.std.specs.Prelude.{ℕ, Bool, not, ◌&&◌, ◌||◌, ◌==◌, nat_le}
use Rattle.imap_words.specs.declared.kinds.Kind.{Kind}
use Rattle.imap_words.specs.declared.kinds.Kind.TheVariants as kind

-- A digit.
abbrev pub is_digit : ℕ → Bool
is_digit b = nat_le 48 b && nat_le b 57

-- A letter of ASCII.
abbrev pub is_letter : ℕ → Bool
is_letter b = (nat_le 65 b && nat_le b 90) || (nat_le 97 b && nat_le b 122)

-- An octet of an atom: printable ASCII without `"`, `%`, `(`, `)`, `*`, `\`, `]` and `{` (ATOM-CHAR).
abbrev pub is_atom_byte : ℕ → Bool
is_atom_byte b =
    nat_le 33 b && nat_le b 126
    && not (b == 34 || b == 37 || b == 40 || b == 41 || b == 42 || b == 92 || b == 93 || b == 123)

-- An octet of a bare text: also `]` (ASTRING-CHAR).
abbrev pub is_astring_byte : ℕ → Bool
is_astring_byte b = is_atom_byte b || b == 93

-- An octet of a bare pattern: also `%` and `*` (list-char).
abbrev pub is_pattern_byte : ℕ → Bool
is_pattern_byte b = is_astring_byte b || b == 37 || b == 42

-- An octet of a tag: that of a bare text, without `+` (tag).
abbrev pub is_tag_byte : ℕ → Bool
is_tag_byte b = is_astring_byte b && not (b == 43)

-- An octet of a flag: that of an atom, or `\` (flag).
abbrev pub is_flag_byte : ℕ → Bool
is_flag_byte b = is_atom_byte b || b == 92

-- An octet of a set: a digit, `*`, `,` or `:` (sequence-set).
abbrev pub is_set_byte : ℕ → Bool
is_set_byte b = is_digit b || b == 42 || b == 44 || b == 58

-- An octet of a keyword: a letter, a digit or a dot.
abbrev pub is_word_byte : ℕ → Bool
is_word_byte b = is_digit b || b == 46 || is_letter b

-- An octet of a literal: any but NUL (CHAR8).
abbrev pub is_octet : ℕ → Bool
is_octet b = not (b == 0)

-- An octet is of a kind.
abbrev pub is_of : Kind → ℕ → Bool
is_of kind.Digit b = is_digit b
is_of kind.Atom b = is_atom_byte b
is_of kind.Astring b = is_astring_byte b
is_of kind.Pattern b = is_pattern_byte b
is_of kind.Tag b = is_tag_byte b
is_of kind.Flag b = is_flag_byte b
is_of kind.Set b = is_set_byte b
is_of kind.Word b = is_word_byte b
