-- What FETCH and UID FETCH say of the messages that a client was told (RFC 3501, sections 6.4.5, 6.4.8
-- and 7.4.2).
use Rattle.std.specs.Prelude.{ℕ, nat_lt, Bool, true, false, not, ◌||◌, List, [], ◌∷◌, ◌++◌, length, codes, decimal, Option, Some, None, if◌then◌else◌}
use Rattle.std.specs.List.{filter, flat_map, list_any}
use Rattle.mail_forms.specs.declared.row.Row.{Row}
use Rattle.arch_model.specs.Archives.{Archive, live, text_of}
use Rattle.arch_model.specs.Listings.{row_in}
use Rattle.line_door.specs.Acts.{Said, Departure}
use Rattle.line_door.specs.Making.{says, streams, in_ways}
use Rattle.wire_replies.specs.Blocks.{crlf_line}
use Rattle.shelf_doors.specs.Refusals.{memory_line, disk_line}
use Rattle.known_uids.specs.Told.{Known, is_live}
use Rattle.imap_syntax.specs.declared.sets.SetRange.{SetRange}
use Rattle.imap_syntax.specs.declared.items.Item.{Item}
use Rattle.imap_syntax.specs.declared.items.Item.TheVariants as item
use Rattle.imap_items.specs.Items.{item_of}
use Rattle.imap_messages.specs.Picking.{ToldMessage, picked, is_outside}
use Rattle.imap_messages.specs.Tagged.{tagged, bad_line, no_code}
use Rattle.imap_messages.specs.declared.fetch.FetchCommand.{FetchCommand}
use Rattle.imap_messages.specs.declared.numbering.Numbering.{Numbering}
use Rattle.imap_messages.specs.declared.numbering.Numbering.TheVariants as by

-- A FETCH: its tag, how it names messages, its set, and its items.
pub record FetchAsked : Type 0 where
  pub tag : List ℕ
  pub numbering : Numbering
  pub set : List SetRange
  pub items : List Item

-- The content of a borrowed command.
abbrev pub asked_fetch : FetchCommand → FetchAsked
asked_fetch c =
    record { tag = c.tag.now; numbering = c.numbering; set = c.set.now; items = c.items.now }

-- The item is told from the text. The others are told from the row alone.
abbrev pub needs_text : Item → Bool
needs_text item.Flags = false
needs_text item.Uid = false
needs_text item.Size = false
needs_text item.InternalDate = false
needs_text item.Envelope = true
needs_text item.Body = true
needs_text item.BodyStructure = true
needs_text item.Rfc822 = true
needs_text item.Rfc822Header = true
needs_text item.Rfc822Text = true
needs_text (item.Section section partial) = true

-- The item is the UID.
abbrev pub is_uid : Item → Bool
is_uid item.Flags = false
is_uid item.Uid = true
is_uid item.Size = false
is_uid item.InternalDate = false
is_uid item.Envelope = false
is_uid item.Body = false
is_uid item.BodyStructure = false
is_uid item.Rfc822 = false
is_uid item.Rfc822Header = false
is_uid item.Rfc822Text = false
is_uid (item.Section section partial) = false

-- The items in the order asked. UID FETCH tells the UID first, where it isn't asked for.
abbrev pub shown_items : Numbering → List Item → List Item
shown_items by.Sequence items = items
shown_items by.Uid items = if list_any is_uid items then items else item.Uid ∷ items

-- An item after a space.
abbrev pub spaced_item : List ℕ → Row → Item → List ℕ
spaced_item text row i = codes " " ++ item_of text row i

-- Items with spaces between them.
abbrev pub items_words : List ℕ → Row → List Item → List ℕ
items_words text row [] = []
items_words text row (i ∷ is) = item_of text row i ++ flat_map (spaced_item text row) is

-- The line of a message with these items (RFC 3501, section 7.4.2).
abbrev pub line_with : ℕ → List ℕ → List ℕ
line_with sequence items = codes "* " ++ (decimal sequence ++ (codes " FETCH ("
    ++ (items ++ crlf_line (codes ")"))))

-- The line of a live message with a text and a row. One that is gone has none.
abbrev pub line_if : ℕ → List Item → Option (List ℕ) → Option Row → List ℕ
line_if sequence items None row = []
line_if sequence items (Some text) None = []
line_if sequence items (Some text) (Some row) = line_with sequence (items_words text row items)

-- The line of a message that a client was told, over the archive now.
abbrev pub message_line : Archive → List Item → ToldMessage → List ℕ
message_line a items m = line_if m.sequence items (text_of (live a.entries) m.uid)
    (row_in a.config.form (live a.entries) m.uid)

-- The message is gone.
abbrev pub is_gone : Archive → ToldMessage → Bool
is_gone a m = not (is_live a m.uid)

-- The end of the reply, by whether a message that is named is gone. UID FETCH passes over these.
abbrev pub fetch_end : Numbering → Bool → List ℕ
fetch_end by.Uid gone = codes "OK UID FETCH done"
fetch_end by.Sequence true = codes "NO some are gone"
fetch_end by.Sequence false = codes "OK FETCH done"

-- The lines of these messages, and the end of the reply, where another named one is gone or not.
abbrev pub fetch_lines : Archive → FetchAsked → List ToldMessage → Bool → List ℕ
fetch_lines a f messages gone = flat_map (message_line a (shown_items f.numbering f.items)) messages
    ++ tagged f.tag (fetch_end f.numbering (gone || list_any (is_gone a) messages))

-- The reply to a FETCH whose numbers are all told.
abbrev pub fetch_words : Archive → List ℕ → FetchAsked → List ℕ
fetch_words a told f = fetch_lines a f (picked f.numbering f.set told) false

-- What a FETCH says by the rules to a client that knows these UIDs. It isn't told of changes. The
-- lines are streamed.
abbrev pub fetch_plain : Archive → Known → FetchAsked → Said Known Archive
fetch_plain a k f = if is_outside f.numbering f.set k.uids then says a k (bad_line f.tag)
    else streams a k (fetch_words a k.uids f)

-- The FETCH reads texts.
abbrev pub reads_texts : FetchAsked → Bool
reads_texts f = list_any needs_text f.items

-- How many of these messages are live, if the FETCH reads texts.
abbrev pub texts_of : Archive → FetchAsked → List ToldMessage → ℕ
texts_of a f messages = if reads_texts f
    then length (filter (λ (m : ToldMessage). is_live a m.uid) messages) else 0

-- How many texts a FETCH reads at most: one for each live message that it names, if an item needs it.
abbrev pub fetch_texts : Archive → Known → FetchAsked → ℕ
fetch_texts a k f = if is_outside f.numbering f.set k.uids then 0
    else texts_of a f (picked f.numbering f.set k.uids)

-- What a FETCH says in each way. It needs the disk where it reads texts.
abbrev pub fetch_said : Archive → Known → FetchAsked → Departure → Said Known Archive
fetch_said a k f way = in_ways (fetch_plain a k f) (says a k (memory_line (no_code f.tag)))
    (if nat_lt 0 (fetch_texts a k f) then says a k (disk_line (no_code f.tag))
    else fetch_plain a k f) way
