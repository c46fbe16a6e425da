-- What an archive has under the target of a request.
use Rattle.std.specs.Prelude.{◌≡◌, ◌+◌, ℕ, Bool, true, false, List, take, drop, reverse, codes, Option, Some, None}
use Rattle.arch_model.specs.Archives.{Archive, live}
use Rattle.arch_model.specs.Listings.{listing}
use Rattle.arch_model.specs.Searching.{search}
use Rattle.atom_mbox.specs.Feeds.{feed_of}
use Rattle.html_pages.specs.Lines.{rows_shown}
use Rattle.html_pages.specs.Pages.{listing_of, search_of, message_of}
use Rattle.http_heads.specs.Addresses.{Named, TheListing, TextOf, ThreadOf, MessageOf, TheFeed, TheMailbox, ThreadFeedOf, ThreadMailboxOf, TheEntries, BlobOf, named_by, segments_of}
use Rattle.http_heads.specs.Heads.{IsHead, Asked, asked_of}
use Rattle.http_heads.specs.Parameters.{path_of, query_of, parameter, skipped}
use Rattle.http_heads.specs.declared.reply.Body.{Body}
use Rattle.http_heads.specs.declared.reply.Body.TheVariants.{Page, Text, Feed, Mailbox, Entries, Blob}
use Rattle.httparse.specs.Grammar.{RequestHead}
use Rattle.mail_forms.specs.declared.row.Row.{Row}
use Rattle.mime_parts.specs.Texts.{body_text_of}
use Rattle.mirror_wire.specs.Lists.{list_of, list_text}
use Rattle.query_lang.specs.Queries.{query_of as query_read}
use Rattle.query_lang.specs.declared.query.Query.{Query}
use Rattle.shelf_trees.specs.Twigs.{thread_twigs}
use Rattle.thread_tree.specs.Laid.{tree_lines}
use Rattle.http_front.specs.Views.{number_named, shown_row, rows_at, shown_text, shown_all, blob_named}
use Rattle.http_front.specs.Threads.{thread_rows, oldest_first, tree_page}
use Rattle.http_front.specs.Mailboxes.{mailbox_at, whole_mailbox}

-- How heads are read: what a head asks, or nothing for what is no head. It is a grammar, so it is given
-- as a function.
abbrev pub HeadGrammar : Type 0
HeadGrammar = List ℕ → Option Asked

-- The reading is that of the grammar.
pub record IsHeadReading (reading : HeadGrammar) : Type 0 where
  pub head : (bytes : List ℕ) (head : RequestHead) → IsHead bytes head
      → reading bytes ≡ Some (asked_of head)
  pub none : (bytes : List ℕ) → ((head : RequestHead) → IsHead bytes head → ⊥)
      → reading bytes ≡ None

-- What stands under a target: a body that is said whole, one that is streamed, or nothing; or the text
-- to search for is no query.
pub data Found : Type 0 where
  Gives : Body → List ℕ → Found
  Streams : Body → List ℕ → Found
  Missing : Found
  BadRange : Found

-- The rows that the page of a listing needs: those that it shows, and one that says that there are
-- more.
abbrev pub rows_needed : ℕ
rows_needed = rows_shown + 1

-- The page of a search for a text, by its query. Without one a term that starts with `d:` is no range
-- of days.
abbrev pub search_found : Archive → List ℕ → ℕ → Option Query → Found
search_found a text skip None = BadRange
search_found a text skip (Some query) = Gives Page
    (search_of a.config.name text
    (rows_at a (take rows_needed (drop skip (search query (live a.entries))))) skip)

-- The page of a listing, or of a search where a text is asked for, whatever it is.
abbrev pub listing_found : Archive → Option (List ℕ) → ℕ → Found
listing_found a None skip = Gives Page
    (listing_of a.config.name
    (rows_at a (take rows_needed (drop skip (listing (live a.entries))))) skip)
listing_found a (Some text) skip = search_found a text skip (query_read text)

-- What is found of a number, if a live mail has the id.
abbrev pub found_of : Option ℕ → (ℕ → Found) → Found
found_of None give = Missing
found_of (Some n) give = give n

-- The page of a message, by its row and its text.
abbrev pub message_found : Archive → Option Row → Option (List ℕ) → Found
message_found a None text = Missing
message_found a (Some row) None = Missing
message_found a (Some row) (Some text) =
    Gives Page (message_of a.config.name row text (body_text_of text))

-- The text of a message.
abbrev pub text_found : Option (List ℕ) → Found
text_found None = Missing
text_found (Some text) = Gives Text text

-- The page of the thread of a number, by its row.
abbrev pub thread_found : Archive → ℕ → Option Row → Found
thread_found a n None = Missing
thread_found a n (Some row) = Gives Page
    (tree_page a row (tree_lines (thread_twigs (live a.entries) n)))

-- The feed of these numbers.
abbrev pub feed_found : Archive → List ℕ → Found
feed_found a numbers =
    Gives Feed (feed_of a.config.name a.config.born (shown_all a numbers))

-- How many mails a feed shows.
abbrev pub feed_len : ℕ
feed_len = 25

-- The list of all entries, which a mirror reads.
abbrev pub entries_found : Archive → Found
entries_found a = Gives Entries (list_text a.config.form (list_of a))

-- The text of a blob.
abbrev pub blob_found : Option (List ℕ) → Found
blob_found None = Missing
blob_found (Some text) = Gives Blob text

-- What an address names: the newest mails of the archive or of a thread in a feed, newest first; all
-- mails by number, or those of a thread by date, in a mailbox file; the list of all entries and the
-- text of a blob, of which mirrors are made; and the pages.
abbrev pub named_found : Archive → List ℕ → Named → Found
named_found a query TheListing = listing_found a (parameter (codes "q") query)
    (skipped (parameter (codes "o") query))
named_found a query (MessageOf id) = found_of (number_named a.entries id)
    (λ (n : ℕ). message_found a (shown_row a n) (shown_text a.entries n))
named_found a query (TextOf id) = found_of (number_named a.entries id)
    (λ (n : ℕ). text_found (shown_text a.entries n))
named_found a query (ThreadOf id) = found_of (number_named a.entries id)
    (λ (n : ℕ). thread_found a n (shown_row a n))
named_found a query TheFeed = feed_found a (take feed_len (listing (live a.entries)))
named_found a query (ThreadFeedOf id) = found_of (number_named a.entries id)
    (λ (n : ℕ). feed_found a (take feed_len (reverse (oldest_first (thread_rows a n)))))
named_found a query TheMailbox = Streams Mailbox (whole_mailbox a.entries)
named_found a query (ThreadMailboxOf id) = found_of (number_named a.entries id)
    (λ (n : ℕ). Streams Mailbox (mailbox_at a.entries (oldest_first (thread_rows a n))))
named_found a query TheEntries = entries_found a
named_found a query (BlobOf digits) = blob_found (blob_named a.config.form a.entries digits)

-- What is found of an address, if the path names one.
abbrev pub path_found : Archive → List ℕ → Option Named → Found
path_found a query None = Missing
path_found a query (Some named) = named_found a query named

-- What stands under a target.
abbrev pub target_found : Archive → List ℕ → Found
target_found a target = path_found a (query_of target)
    (named_by a.config.name (segments_of (path_of target)))

-- Texts are read for what is named: for the page of a message, its text, feeds, mailbox files and the
-- text of a blob.
abbrev pub reads_texts : Named → Bool
reads_texts TheListing = false
reads_texts (ThreadOf id) = false
reads_texts TheEntries = false
reads_texts other = true

-- Texts are read for what a path names, if it names anything.
abbrev pub path_reads : Option Named → Bool
path_reads None = false
path_reads (Some named) = reads_texts named

-- Texts are read for a target.
abbrev pub target_reads : Archive → List ℕ → Bool
target_reads a target = path_reads (named_by a.config.name (segments_of (path_of target)))

-- How many texts are read at most to find what is named: one for each mail of a feed, and none for a
-- listing, the page of a thread and the list of entries. Those of a mailbox file are read while it is
-- said.
abbrev pub texts_for : Named → ℕ
texts_for (MessageOf id) = 1
texts_for (TextOf id) = 1
texts_for TheFeed = feed_len
texts_for (ThreadFeedOf id) = feed_len
texts_for (BlobOf digits) = 1
texts_for other = 0

-- How many texts are read at most to find what a path names, if it names anything.
abbrev pub path_texts : Option Named → ℕ
path_texts None = 0
path_texts (Some named) = texts_for named

-- How many texts are read at most to find what stands under a target.
abbrev pub target_texts : Archive → List ℕ → ℕ
target_texts a target = path_texts (named_by a.config.name (segments_of (path_of target)))
