-- The thread of a mail: its mails by date, and its tree.
use Rattle.std.specs.Prelude.{◌≡◌, ℕ, List, [], ◌∷◌, ◌++◌, map, Option, Some, None, codes}
use Rattle.std.specs.List.{flat_map}
use Rattle.std.specs.BTreeSet.{insert_key}
use Rattle.arch_model.specs.Archives.{Archive, live}
use Rattle.arch_model.specs.Listings.{date_cmp, number_beside}
use Rattle.arch_model.specs.Threading.{thread_in}
use Rattle.html_pages.specs.Lines.{row_line, indent, entry_line}
use Rattle.html_pages.specs.Pages.{page_of}
use Rattle.html_pages.specs.declared.thread_line.ThreadEntry.{ThreadEntry}
use Rattle.mail_forms.specs.declared.row.Row.{Row}
use Rattle.thread_tree.specs.declared.lines.Line.{Line}
use Rattle.thread_tree.specs.declared.lines.Who.{Who}
use Rattle.thread_tree.specs.declared.lines.Who.TheVariants.{Live, Ghost}
use Rattle.web_text.specs.Escapes.{escaped, title_of}
use Rattle.http_front.specs.Views.{row_at, rows_at}

-- A mail's place among others: the seconds of its date, and then its number.
abbrev pub place_of : Row → ℕ × ℕ
place_of row = (row.date.secs, row.number)

-- Places put one after the other where they belong.
abbrev pub put_places : List (ℕ × ℕ) → List Row → List (ℕ × ℕ)
put_places done [] = done
put_places done (row ∷ rows) = put_places (insert_key date_cmp done (place_of row)) rows

-- The numbers of rows by date and then by number, both rising.
unfoldable pub oldest_first : List Row → List ℕ
oldest_first rows = map number_beside (put_places [] rows)

-- The rows of the thread of a number.
abbrev pub thread_rows : Archive → ℕ → List Row
thread_rows a n = rows_at a (thread_in (live a.entries) n)

-- A line of a page after its indent: the mail of a number, or the id of a mail that the archive doesn't
-- have. Of a number without a mail, which no tree has, there is no line.
abbrev pub who_line : Archive → List ℕ → Who → List ℕ
who_line a before (Live n) =
    flat_map (λ (row : Row). before ++ row_line a.config.name row) (row_at a n)
who_line a before (Ghost id) = before ++ codes "[not found] " ++ escaped id ++ codes "\n"

-- A line of a tree as the page shows it, indented by its depth.
abbrev pub tree_line : Archive → Line → List ℕ
tree_line a line = who_line a (indent line.depth) line.who

-- What a line of a tree stands for, as a page has it.
abbrev pub IsThreadEntryOf : Archive → Who → Option ThreadEntry → Type 0
IsThreadEntryOf a who None = (before : List ℕ) → who_line a before who ≡ []
IsThreadEntryOf a who (Some entry) = (before : List ℕ)
    → who_line a before who ≡ before ++ entry_line a.config.name entry

-- The page of a thread by the lines of its tree. Its title is the subject of the row that was asked
-- for.
unfoldable pub tree_page : Archive → Row → List Line → List ℕ
tree_page a row lines =
    page_of (title_of row.subject) (flat_map (tree_line a) lines)
