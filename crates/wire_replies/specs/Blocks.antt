-- Lines of replies, and blocks of lines (RFC 3977, section 3.1.1; RFC 1939, section 3).
use Rattle.std.specs.Prelude.{ℕ, ◌==◌, List, [], ◌∷◌, ◌++◌, if◌then◌else◌}
use Rattle.std.specs.List.{flat_map}
use Rattle.mail_reader.specs.Lines.{lines_of}
use Rattle.mail_forms.specs.WireForms.{wire_of}

-- Words as a line of a reply, which ends with a carriage return and a line feed.
abbrev pub crlf_line : List ℕ → List ℕ
crlf_line words = words ++ 13 ∷ 10 ∷ []

-- The last line of a block: a single dot.
abbrev pub block_end : List ℕ
block_end = 46 ∷ 13 ∷ 10 ∷ []

-- The line with one more dot before it, if it starts with one.
abbrev pub dotted : List ℕ → List ℕ
dotted [] = []
dotted (b ∷ bs) = if b == 46 then 46 ∷ b ∷ bs else b ∷ bs

-- The line of a text as a block has it: in its wire form, dotted.
abbrev pub block_line : List ℕ → List ℕ
block_line line = wire_of (dotted line)

-- The lines of a text as a block has them.
unfoldable pub block_lines : List ℕ → List ℕ
block_lines text = flat_map block_line (lines_of text)

-- A first line, and then a block of lines of which none starts with a dot.
abbrev pub listed : List ℕ → List (List ℕ) → List ℕ
listed first lines = crlf_line first ++ (flat_map crlf_line lines ++ block_end)
