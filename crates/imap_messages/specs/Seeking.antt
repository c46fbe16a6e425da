-- What SEARCH and UID SEARCH say of the messages that a client was told (RFC 3501, sections 6.4.4,
-- 6.4.8 and 7.2.5).
use Rattle.std.specs.Prelude.{ℕ, nat_lt, Bool, true, false, not, ◌&&◌, ◌||◌, List, [], ◌++◌, length, map, codes, decimal, Option, Some, None, option_copied, if◌then◌else◌}
use Rattle.std.specs.List.{filter, flat_map, list_any, list_all}
use Rattle.std.specs.Str.{str_eq_ignore_ascii_case}
use Rattle.mail_forms.specs.declared.row.Row.{Row}
use Rattle.arch_model.specs.Archives.{Archive, live, text_of}
use Rattle.arch_model.specs.Listings.{row_in}
use Rattle.line_door.specs.Acts.{Said, Departure}
use Rattle.line_door.specs.Making.{says, in_ways}
use Rattle.wire_replies.specs.Blocks.{crlf_line}
use Rattle.shelf_doors.specs.Refusals.{memory_line, disk_line}
use Rattle.known_uids.specs.Told.{Known}
use Rattle.imap_syntax.specs.Trees.{KeyTree, trees, tree_of}
use Rattle.imap_items.specs.Keys.{message_of, tree_matches, tree_reads}
use Rattle.imap_messages.specs.Picking.{ToldMessage, messages_from, greatest_uid, number_by}
use Rattle.imap_messages.specs.Tagged.{tagged, bad_line, no_code}
use Rattle.imap_messages.specs.Wanted.{trees_are_told}
use Rattle.imap_messages.specs.declared.numbering.Numbering.{Numbering}
use Rattle.imap_messages.specs.declared.numbering.Numbering.TheVariants as by
use Rattle.imap_messages.specs.declared.search.SearchCommand.{SearchCommand}

-- A SEARCH: its tag, which numbers it gives, its charset, and its keys, which are all asked.
pub record SearchAsked : Type 0 where
  pub tag : List ℕ
  pub numbering : Numbering
  pub charset : Option (List ℕ)
  pub keys : List KeyTree

-- The content of a borrowed command.
abbrev pub asked_search : SearchCommand → SearchAsked
asked_search c = record {
  tag = c.tag.now;
  numbering = c.numbering;
  charset = option_copied c.charset;
  keys = map tree_of c.keys.now;
}

-- The charset is one in which texts are searched. Its name stands in any case.
abbrev pub is_known_charset : Option (List ℕ) → Bool
is_known_charset None = true
is_known_charset (Some name) = str_eq_ignore_ascii_case name (codes "UTF-8")
    || str_eq_ignore_ascii_case name (codes "US-ASCII")

-- A message with a text and a row matches all keys.
abbrev pub matches_all : List ℕ → ToldMessage → List KeyTree → List ℕ → Row → Bool
matches_all told m keys text row =
    list_all (tree_matches (message_of text row m.sequence (length told) (greatest_uid told))) keys

-- The same, if the message is live. One that is gone matches nothing.
abbrev pub matches_if : List ℕ → ToldMessage → List KeyTree → Option (List ℕ) → Option Row → Bool
matches_if told m keys None row = false
matches_if told m keys (Some text) None = false
matches_if told m keys (Some text) (Some row) = matches_all told m keys text row

-- A message that the client was told is live now, and matches all keys.
abbrev pub is_sought : Archive → List ℕ → List KeyTree → ToldMessage → Bool
is_sought a told keys m = matches_if told m keys (text_of (live a.entries) m.uid)
    (row_in a.config.form (live a.entries) m.uid)

-- The messages that match all keys, by rising numbers.
unfoldable pub sought : Archive → List ℕ → List KeyTree → List ToldMessage
sought a told keys = filter (is_sought a told keys) (messages_from 1 told)

-- A number after a space.
abbrev pub spaced_number : ℕ → List ℕ
spaced_number n = codes " " ++ decimal n

-- The end of the reply.
abbrev pub search_end : Numbering → List ℕ
search_end by.Sequence = codes "OK SEARCH done"
search_end by.Uid = codes "OK UID SEARCH done"

-- The reply that gives these numbers (RFC 3501, section 7.2.5).
abbrev pub numbers_words : List ℕ → Numbering → List ℕ → List ℕ
numbers_words tag numbering numbers = codes "* SEARCH" ++ (flat_map spaced_number numbers
    ++ (crlf_line [] ++ tagged tag (search_end numbering)))

-- The reply to a SEARCH whose numbers are all told.
abbrev pub search_words : Archive → List ℕ → SearchAsked → List ℕ
search_words a told s =
    numbers_words s.tag s.numbering (map (number_by s.numbering) (sought a told s.keys))

-- The line for a charset that isn't known.
abbrev pub charset_line : List ℕ → List ℕ
charset_line tag = tagged tag (codes "NO [BADCHARSET (UTF-8 US-ASCII)] charset")

-- A SEARCH is searched, and not refused: its sequence numbers are told, and its charset is known.
abbrev pub is_searched : List ℕ → SearchAsked → Bool
is_searched told s = trees_are_told (length told) (trees s.keys) && is_known_charset s.charset

-- The line of a refused SEARCH.
abbrev pub search_refusal : List ℕ → SearchAsked → List ℕ
search_refusal told s = if trees_are_told (length told) (trees s.keys) then charset_line s.tag
    else bad_line s.tag

-- What a SEARCH says by the rules to a client that knows these UIDs. It isn't told of changes.
abbrev pub search_plain : Archive → Known → SearchAsked → Said Known Archive
search_plain a k s = if is_searched k.uids s then says a k (search_words a k.uids s)
    else says a k (search_refusal k.uids s)

-- The SEARCH reads texts.
abbrev pub looks_at_texts : SearchAsked → Bool
looks_at_texts s = list_any tree_reads s.keys

-- The keys that read no text.
abbrev pub row_keys : List KeyTree → List KeyTree
row_keys keys = filter (λ (k : KeyTree). not (tree_reads k)) keys

-- How many of these messages match all keys that read no text, if another key reads texts.
abbrev pub looks_of : Archive → List ℕ → SearchAsked → List ToldMessage → ℕ
looks_of a told s messages = if looks_at_texts s
    then length (filter (is_sought a told (row_keys s.keys)) messages) else 0

-- How many texts a SEARCH reads at most: if a key reads texts, one for each live message that matches
-- all keys that don't.
abbrev pub search_texts : Archive → Known → SearchAsked → ℕ
search_texts a k s =
    if is_searched k.uids s then looks_of a k.uids s (messages_from 1 k.uids) else 0

-- What a SEARCH says in each way. It isn't streamed. It needs the disk where it reads texts.
abbrev pub search_said : Archive → Known → SearchAsked → Departure → Said Known Archive
search_said a k s way = in_ways (search_plain a k s) (says a k (memory_line (no_code s.tag)))
    (if nat_lt 0 (search_texts a k s) then says a k (disk_line (no_code s.tag))
    else search_plain a k s) way
