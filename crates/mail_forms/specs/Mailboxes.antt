-- The piece of a mailbox file that holds a text (RFC 4155, appendix A, with quoted lines as mboxrd
-- has them).
use Rattle.std.specs.Prelude.{ℕ, Bool, ◌==◌, List, [], ◌∷◌, ◌++◌, drop, codes, if◌then◌else◌}
use Rattle.std.specs.List.{prefix_len, flat_map}
use Rattle.mail_reader.specs.Lines.{lines_of}
use Rattle.mail_reader.specs.Stored.{is_mailbox_line}

-- The byte is `>`, by which a line is quoted.
abbrev pub is_mark : ℕ → Bool
is_mark b = b == 62

-- The line without the marks at its front.
abbrev pub without_marks : List ℕ → List ℕ
without_marks line = drop (prefix_len is_mark line) line

-- The line starts with `From ` after any number of marks.
abbrev pub is_from_line : List ℕ → Bool
is_from_line line = is_mailbox_line (without_marks line)

-- The line as a mailbox file has it: if it starts with `From ` after any number of marks, with one
-- more mark.
abbrev pub quoted : List ℕ → List ℕ
quoted line = if is_from_line line then 62 ∷ line else line

-- The line before each message.
abbrev pub separator : List ℕ
separator = codes "From mboxrd@z Thu Jan  1 00:00:00 1970\n"

-- The piece of a text: the line before it, its lines as the file has them, and an empty line.
unfoldable pub mbox_of : List ℕ → List ℕ
mbox_of text = separator ++ (flat_map quoted (lines_of text) ++ 10 ∷ [])
