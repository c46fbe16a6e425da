-- Mailbox files of an archive's mails.
use Rattle.std.specs.Prelude.{ℕ, ◌+◌, zero, suc, List, [], ◌++◌, Option, Some, None}
use Rattle.std.specs.List.{flat_map}
use Rattle.arch_model.specs.Archives.{Entry}
use Rattle.mail_forms.specs.Mailboxes.{mbox_of}
use Rattle.http_front.specs.Views.{shown_text}

-- The piece of a text, or nothing without one.
abbrev pub piece_by : Option (List ℕ) → List ℕ
piece_by None = []
piece_by (Some text) = mbox_of text

-- The piece of a number in a mailbox file.
abbrev pub piece_at : List Entry → ℕ → List ℕ
piece_at entries n = piece_by (shown_text entries n)

-- The mailbox file of these numbers, in their order.
abbrev pub mailbox_at : List Entry → List ℕ → List ℕ
mailbox_at entries numbers = flat_map (piece_at entries) numbers

-- The pieces of so many numbers from one on, rising.
abbrev pub pieces_from : List Entry → ℕ → ℕ → List ℕ
pieces_from entries low zero = []
pieces_from entries low (suc count) = piece_at entries low ++ pieces_from entries (low + 1) count

-- The mailbox file of all live numbers, rising. Numbers have 32 bits.
unfoldable pub whole_mailbox : List Entry → List ℕ
whole_mailbox entries = pieces_from entries 0 4294967296
