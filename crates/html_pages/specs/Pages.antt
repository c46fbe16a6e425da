-- Pages (HTML Living Standard, section 13.1).
use Rattle.std.specs.Prelude.{ℕ, List, [], ◌∷◌, ◌++◌, length, take, drop, codes}
use Rattle.std.specs.List.{flat_map}
use Rattle.mail_forms.specs.declared.row.Row.{Row}
use Rattle.web_text.specs.Escapes.{escaped, title_of}
use Rattle.html_pages.specs.Lines.{row_line, rows_shown, older_link, older_found, header_line, links_line, thread_line}
use Rattle.html_pages.specs.declared.thread_line.ThreadLine.{ThreadLine}

-- A page with a title, and with lines that are shown as they stand.
abbrev pub page_of : List ℕ → List ℕ → List ℕ
page_of title lines =
    codes "<html><head><title>" ++ title ++ codes "</title></head><body><pre>" ++ lines
    ++ codes "</pre></body></html>\n"

-- The page of a listing: of the rows that follow the skipped ones, at most 200, and a link to those
-- after them.
unfoldable pub listing_of : List ℕ → List Row → ℕ → List ℕ
listing_of name rows skip =
    page_of name
    (flat_map (row_line name) (take rows_shown rows) ++ older_link skip (length (drop rows_shown rows)))

-- The page of a search for a text: of the rows that were found and follow the skipped ones, at most
-- 200, and a link to those after them, which searches for the same text.
unfoldable pub search_of : List ℕ → List ℕ → List Row → ℕ → List ℕ
search_of name text rows skip =
    page_of name (flat_map (row_line name) (take rows_shown rows)
    ++ older_found text skip (length (drop rows_shown rows)))

-- The fields that the page of a message shows, in this order.
abbrev pub shown_fields : List (List ℕ)
shown_fields =
    codes "From" ∷ codes "To" ∷ codes "Cc" ∷ codes "Subject" ∷ codes "Date" ∷ codes "Message-ID" ∷ []

-- What the page of a message shows: fields of its text, the text of its body, and links.
abbrev pub message_lines : List ℕ → Row → List ℕ → List ℕ → List ℕ
message_lines name row text body =
    flat_map (header_line text) shown_fields ++ codes "\n" ++ escaped body ++ codes "\n"
    ++ links_line name row.id

-- The page of a message with a row and a text, whose body has this text.
unfoldable pub message_of : List ℕ → Row → List ℕ → List ℕ → List ℕ
message_of name row text body = page_of (title_of row.subject) (message_lines name row text body)

-- The page of a thread, whose title is the subject of one of its mails.
unfoldable pub thread_of : List ℕ → Row → List ThreadLine → List ℕ
thread_of name row lines = page_of (title_of row.subject) (flat_map (thread_line name) lines)
