-- Laws of pages: no tag, and no value of an attribute, comes from a mail.
use Rattle.std.specs.Prelude.{◌≡◌, ℕ, ◌^◌, ◌<◌, min, Bool, true, false, List, [], ◌++◌, length, filter, replicate, codes}
use Rattle.std.specs.List.{concat}
use Rattle.arch_base.specs.Names.{IsArchiveName}
use Rattle.mail_forms.specs.declared.row.Row.{Row}
use Rattle.web_text.specs.Escapes.{escaped}
use Rattle.web_text.specs.Markup.{markup}
use Rattle.html_pages.specs.Pieces.{address}
use Rattle.html_pages.specs.Pages.{listing_of, search_of, message_of, thread_of}
use Rattle.html_pages.specs.declared.thread_line.ThreadLine.{ThreadLine}
use Rattle.html_pages.specs.declared.thread_line.ThreadEntry.{ThreadEntry}
use Rattle.html_pages.specs.declared.thread_line.ThreadEntry.TheVariants.{Mail, Missing}

-- The bytes of markup of a link: of its first tag, which has an address, and of its last tag.
abbrev pub link_markup : List ℕ
link_markup = codes "<\"\"><>"

-- Those of so many links.
abbrev pub links_markup : ℕ → List ℕ
links_markup count = concat (replicate count link_markup)

-- Those of a page with so many links: seven tags are before its lines, and three after them.
abbrev pub page_markup : ℕ → List ℕ
page_markup count = codes "<><><><><><><>" ++ links_markup count ++ codes "<><><>"

-- A text of a mail has none in a page.
abbrev pub TextMakesNoTag : Type 0
TextMakesNoTag = (text : List ℕ) → markup (escaped text) ≡ []

-- Nor has the address of a message.
abbrev pub AddressMakesNoTag : Type 0
AddressMakesNoTag = (name id : List ℕ) → IsArchiveName name → markup (address name id) ≡ []

-- A listing has its own tags, and a link for each row that it shows and to older ones.
abbrev pub ListingHasItsTags : Type 0
ListingHasItsTags = (name : List ℕ) (rows : List Row) (skip : ℕ) → IsArchiveName name → skip < 2 ^ 64
    → markup (listing_of name rows skip) ≡ page_markup (min (length rows) 201)

-- The page of a search has its own tags, and a link for each row that it shows and to older ones,
-- whatever text is searched for.
abbrev pub SearchHasItsTags : Type 0
SearchHasItsTags = (name text : List ℕ) (rows : List Row) (skip : ℕ) → IsArchiveName name → skip < 2 ^ 64
    → markup (search_of name text rows skip) ≡ page_markup (min (length rows) 201)

-- The page of a message has its own tags, and two links.
abbrev pub MessageHasItsTags : Type 0
MessageHasItsTags = (name text body : List ℕ) (row : Row) → IsArchiveName name
    → markup (message_of name row text body) ≡ page_markup 2

-- The line is that of a mail.
abbrev pub is_of_mail : ThreadEntry → Bool
is_of_mail (Mail row) = true
is_of_mail (Missing id) = false

-- How many lines are those of mails.
abbrev pub mail_count : List ThreadLine → ℕ
mail_count lines = length (filter (λ (line : ThreadLine). is_of_mail line.entry) lines)

-- The page of a thread has its own tags, and a link for each of its mails.
abbrev pub ThreadHasItsTags : Type 0
ThreadHasItsTags = (name : List ℕ) (row : Row) (lines : List ThreadLine) → IsArchiveName name
    → markup (thread_of name row lines) ≡ page_markup (mail_count lines)
