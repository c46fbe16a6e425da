-- The mailboxes of an archive: its numbers from 1 on, so many in each. A mailbox is named by the
-- archive's name, a dot and its index, from 0.
use Rattle.std.specs.Prelude.{◌+◌, ◌-◌, ◌*◌, ◌/◌, ◌==◌, min, nat_le, ℕ, List, [], ◌∷◌, Option, Some, None, if◌then◌else◌}
use Rattle.arch_base.specs.Decimals.{decimal_of}
use Rattle.arch_model.specs.Archives.{Archive}
use Rattle.shelf_doors.specs.Numbers.{last_number}
use Rattle.shelf_doors.specs.declared.mailbox.MailboxRange.{MailboxRange}

-- The index of the last mailbox. A new archive has one, too.
abbrev pub last_index : Archive → ℕ
last_index a = (a.next - 2) / a.config.slice

-- The index, if there is a mailbox with it.
abbrev pub mailbox_at : Archive → Option ℕ → Option ℕ
mailbox_at a None = None
mailbox_at a (Some index) = if nat_le index (last_index a) then Some index else None

-- What follows these bytes at the front of others, if they are there.
abbrev pub behind_prefix : List ℕ → List ℕ → Option (List ℕ)
behind_prefix [] bytes = Some bytes
behind_prefix (p ∷ ps) [] = None
behind_prefix (p ∷ ps) (b ∷ bs) = if p == b then behind_prefix ps bs else None

-- The decimal that follows a dot, if that is all that there is.
abbrev pub decimal_after_dot : Option (List ℕ) → Option ℕ
decimal_after_dot None = None
decimal_after_dot (Some []) = None
decimal_after_dot (Some (b ∷ bs)) = if b == 46 then decimal_of bs else None

-- The index of the mailbox with a name, if there is one.
unfoldable pub mailbox_named : Archive → List ℕ → Option ℕ
mailbox_named a name = mailbox_at a (decimal_after_dot (behind_prefix a.config.name name))

-- The numbers that a mailbox may have. The last is at most the greatest number of 32 bits.
abbrev pub mailbox_range : Archive → ℕ → MailboxRange
mailbox_range a index = record {
  first = index * a.config.slice + 1;
  last = min ((index + 1) * a.config.slice) last_number;
}

-- The range of the mailbox with an index, if there is one.
abbrev pub range_if : Archive → Option ℕ → Option MailboxRange
range_if a None = None
range_if a (Some index) = Some (mailbox_range a index)
