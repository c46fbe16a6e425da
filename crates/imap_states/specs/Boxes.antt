-- What SELECT, EXAMINE and STATUS say of a mailbox (RFC 3501, sections 6.3.1, 6.3.2 and 6.3.10).
use Rattle.std.specs.Prelude.{◌≡◌, ◌+◌, ◌≤◌, ◌<◌, ℕ, min, max, List, [], ◌∷◌, ◌++◌, length, codes, decimal, Some}
use Rattle.arch_model.specs.Archives.{Archive}
use Rattle.imap_syntax.specs.declared.asks.StatusItem.{StatusItem}
use Rattle.imap_syntax.specs.declared.asks.StatusItem.TheVariants as status
use Rattle.known_uids.specs.Told.{Known, known, live_in}
use Rattle.shelf_doors.specs.Mailboxes.{mailbox_named, mailbox_range}
use Rattle.shelf_doors.specs.declared.mailbox.MailboxRange.{MailboxRange}
use Rattle.wire_replies.specs.Blocks.{crlf_line}
use Rattle.imap_states.specs.declared.boxes.Mailbox.{Mailbox}

-- The live messages of a mailbox with these numbers, as a client knows them.
abbrev pub box_of : Archive → MailboxRange → Known
box_of a range = known range.first range.last (live_in a range.first range.last)

-- How many live messages the mailbox has.
abbrev pub box_count : Archive → MailboxRange → ℕ
box_count a range = length (live_in a range.first range.last)

-- UIDNEXT: the next number, but not below the mailbox's first one, nor above the one after its last.
abbrev pub uid_next : Archive → MailboxRange → ℕ
uid_next a range = min (range.last + 1) (max a.next range.first)

-- The name of the mailbox with an index: that of the archive, a dot and the index.
abbrev pub box_name : Archive → ℕ → List ℕ
box_name a index = a.config.name ++ 46 ∷ decimal index

-- The end of a line that begins with that name.
abbrev pub named_end : Archive → ℕ → List ℕ → List ℕ
named_end a index more = a.config.name ++ 46 ∷ (decimal index ++ more)

-- The reply to SELECT or EXAMINE, by the command's name.
abbrev pub select_words : Archive → List ℕ → List ℕ → MailboxRange → List ℕ
select_words a tag name range = crlf_line (codes "* FLAGS ()")
    ++ (codes "* " ++ (decimal (box_count a range) ++ (crlf_line (codes " EXISTS")
    ++ (crlf_line (codes "* 0 RECENT")
    ++ (codes "* OK [UIDVALIDITY " ++ (decimal a.config.born ++ (crlf_line (codes "] uidvalidity")
    ++ (codes "* OK [UIDNEXT " ++ (decimal (uid_next a range) ++ (crlf_line (codes "] uidnext")
    ++ (crlf_line (codes "* OK [PERMANENTFLAGS ()] no flags")
    ++ (tag ++ (codes " OK [READ-ONLY] " ++ (name ++ crlf_line (codes " done")))))))))))))))

-- The name of an item of STATUS.
abbrev pub status_name : StatusItem → List ℕ
status_name status.Messages = codes "MESSAGES "
status_name status.Recent = codes "RECENT "
status_name status.UidNext = codes "UIDNEXT "
status_name status.UidValidity = codes "UIDVALIDITY "
status_name status.Unseen = codes "UNSEEN "

-- Its value. No message is recent, and none is seen.
abbrev pub status_value : Archive → MailboxRange → StatusItem → ℕ
status_value a range status.Messages = box_count a range
status_value a range status.Recent = 0
status_value a range status.UidNext = uid_next a range
status_value a range status.UidValidity = a.config.born
status_value a range status.Unseen = box_count a range

-- An item and its value.
abbrev pub status_words : Archive → MailboxRange → StatusItem → List ℕ
status_words a range item = status_name item ++ decimal (status_value a range item)

-- Items and their values, with a space between them; `before` stands before the first one.
abbrev pub status_list : Archive → MailboxRange → List ℕ → List StatusItem → List ℕ
status_list a range before [] = []
status_list a range before (item ∷ items) =
    before ++ (status_words a range item ++ status_list a range (codes " ") items)

-- The line of STATUS for the mailbox with an index and these numbers.
abbrev pub status_line : Archive → ℕ → MailboxRange → List StatusItem → List ℕ
status_line a index range items = codes "* STATUS "
    ++ named_end a index (codes " " ++ (status_list a range (codes "(") items ++ crlf_line (codes ")")))

-- A mailbox may have these numbers.
abbrev pub IsRange : MailboxRange → Type 0
IsRange range = (1 ≤ range.first) × (range.first ≤ range.last + 1) × (range.last < 4294967295)

-- The mailbox with an index and these numbers.
abbrev pub mailbox_of : ℕ → MailboxRange → Mailbox
mailbox_of index range = record { index = index; range = range }

-- The mailbox with a name was found.
pub record IsMailbox (a : Archive) (name : List ℕ) (m : Mailbox) : Type 0 where
  pub named : mailbox_named a name ≡ Some m.index
  pub range : m.range ≡ mailbox_range a m.index
