-- What LIST and LSUB say (RFC 3501, sections 6.3.8, 6.3.9, 7.2.2 and 7.2.3).
use Rattle.std.specs.Prelude.{◌+◌, ℕ, zero, suc, List, [], ◌∷◌, ◌++◌, codes, if◌then◌else◌}
use Rattle.arch_model.specs.Archives.{Archive}
use Rattle.shelf_doors.specs.Mailboxes.{last_index}
use Rattle.wire_replies.specs.Blocks.{crlf_line}
use Rattle.imap_states.specs.Boxes.{box_name, named_end}
use Rattle.imap_states.specs.Patterns.{matches_name}

-- `* LIST () NIL NAME`, by the command's name.
abbrev pub list_line : Archive → List ℕ → ℕ → List ℕ
list_line a command index = codes "* "
    ++ (command ++ (codes " () NIL " ++ named_end a index (13 ∷ 10 ∷ [])))

-- The line of the mailbox with an index, if a pattern matches its name.
abbrev pub list_line_if : Archive → List ℕ → List ℕ → ℕ → List ℕ
list_line_if a command pattern index =
    if matches_name pattern (box_name a index) then list_line a command index else []

-- The lines of so many mailboxes from an index on that a pattern matches.
abbrev pub list_lines : Archive → List ℕ → List ℕ → ℕ → ℕ → List ℕ
list_lines a command pattern index zero = []
list_lines a command pattern index (suc count) =
    list_line_if a command pattern index ++ list_lines a command pattern (index + 1) count

-- `* LIST (\Noselect) NIL ""`: the answer to an empty pattern, which asks for the delimiter.
abbrev pub root_line : List ℕ → List ℕ
root_line command = codes "* " ++ (command ++ crlf_line (codes " (\\Noselect) NIL \"\""))

-- The lines of LIST or LSUB. The reference and the pattern are joined.
abbrev pub listing : Archive → List ℕ → List ℕ → List ℕ → List ℕ
listing a command reference [] = root_line command
listing a command reference (p ∷ ps) =
    list_lines a command (reference ++ p ∷ ps) 0 (last_index a + 1)
