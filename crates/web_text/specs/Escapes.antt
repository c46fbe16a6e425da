-- Text between tags and in quoted attributes (XML 1.0, sections 2.2 and 2.4).
use Rattle.std.specs.Prelude.{ℕ, Bool, ◌&&◌, ◌||◌, not, ◌==◌, nat_lt, List, length, if◌then◌else◌, codes, chars}
use Rattle.std.specs.List.{flat_map}
use Rattle.std.specs.Char.{encode_utf8}
use Rattle.std.specs.Str.Lossy.{utf8_lossy}

-- A page or a feed can't have the character: it is a control character other than a tab and a line
-- feed, U+FFFE or U+FFFF.
abbrev pub is_excluded : ℕ → Bool
is_excluded c =
    (nat_lt c 32 && not (c == 9) && not (c == 10)) || c == 127 || c == 0xFFFE || c == 0xFFFF

-- The character, or U+FFFD for one that a page or a feed can't have.
abbrev pub shown : ℕ → ℕ
shown c = if is_excluded c then 0xFFFD else c

-- A character in UTF-8, those of markup by their names.
abbrev pub spelled : ℕ → List ℕ
spelled c =
    if c == 38 then codes "&amp;" else if c == 60 then codes "&lt;"
    else if c == 62 then codes "&gt;" else if c == 34 then codes "&quot;"
    else encode_utf8 (shown c)

-- The characters of a text in UTF-8, each so spelled.
unfoldable pub escaped_chars : List ℕ → List ℕ
escaped_chars text = flat_map spelled (chars text)

-- The same of any bytes. Those that aren't UTF-8 are read as U+FFFD.
abbrev pub escaped : List ℕ → List ℕ
escaped bytes = escaped_chars (utf8_lossy bytes)

-- The title of a mail with this subject.
abbrev pub title_of : List ℕ → List ℕ
title_of subject = if length subject == 0 then codes "(no subject)" else escaped subject
