-- Mailbox files (RFC 4155, appendix A, with quoted lines as mboxrd has them).
use Rattle.std.specs.Prelude.{ℕ, List, length}
use Rattle.std.specs.List.{flat_map}
use Rattle.mail_forms.specs.Mailboxes.{mbox_of}
use Rattle.mail_forms.specs.declared.row.Row.{Row}

-- The mailbox file of texts: the piece of each, in order.
unfoldable pub mailbox_of : List (List ℕ) → List ℕ
mailbox_of texts = flat_map mbox_of texts

-- The length of a text's piece.
abbrev pub piece_len : List ℕ → ℕ
piece_len text = length (mbox_of text)

-- The length of a piece as the row of its text tells it.
abbrev pub told_len : Row → ℕ
told_len row = row.mbox
