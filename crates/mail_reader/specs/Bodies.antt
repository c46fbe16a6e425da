-- The body of a text (RFC 5322, section 2.3).
use Rattle.std.specs.Prelude.{ℕ, List}
use Rattle.std.specs.List.{concat}
use Rattle.mail_reader.specs.Lines.{lines_of, after_header, after_empty}

-- The body: the lines after the header, without the empty line between them.
unfoldable pub body_of : List ℕ → List ℕ
body_of text = concat (after_empty (after_header (lines_of text)))
