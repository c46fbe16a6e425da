-- The lines of pages.
use Rattle.std.specs.Prelude.{ℕ, ◌+◌, ◌*◌, min, ◌==◌, List, [], ◌++◌, Option, Some, None, replicate, codes, if◌then◌else◌}
use Rattle.std.specs.Fmt.{decimal}
use Rattle.form_urlencoded.specs.Form.{byte_serialize}
use Rattle.mail_reader.specs.Fields.{FieldText, fields_of, first_named}
use Rattle.mail_reader.specs.Values.{flat_of}
use Rattle.mime_words.specs.Decoding.{decoded}
use Rattle.mail_forms.specs.declared.row.Row.{Row}
use Rattle.web_text.specs.Escapes.{escaped, title_of}
use Rattle.html_pages.specs.Pieces.{page_date, address}
use Rattle.html_pages.specs.declared.thread_line.ThreadLine.{ThreadLine}
use Rattle.html_pages.specs.declared.thread_line.ThreadEntry.{ThreadEntry}
use Rattle.html_pages.specs.declared.thread_line.ThreadEntry.TheVariants.{Mail, Missing}

-- The line of a mail: its date, its subject as a link to its page, and its author.
unfoldable pub row_line : List ℕ → Row → List ℕ
row_line name row =
    page_date row.date.secs ++ codes " <a href=\"" ++ address name row.id ++ codes "\">"
    ++ title_of row.subject ++ codes "</a> " ++ escaped row.from ++ codes "\n"

-- How many rows a listing shows at once.
abbrev pub rows_shown : ℕ
rows_shown = 200

-- The link to the rows after those that are shown, of which there are so many. For none there is no
-- link.
abbrev pub older_link : ℕ → ℕ → List ℕ
older_link skip count =
    if count == 0 then []
    else codes "<a href=\"?o=" ++ decimal (skip + rows_shown) ++ codes "\">older</a>\n"

-- The link to the rows that a search for a text found after those that are shown, of which there are
-- so many. For none there is no link.
abbrev pub older_found : List ℕ → ℕ → ℕ → List ℕ
older_found text skip count =
    if count == 0 then []
    else codes "<a href=\"?q=" ++ byte_serialize text ++ codes "&amp;o="
    ++ decimal (skip + rows_shown) ++ codes "\">older</a>\n"

-- The line of a field: its name, and its decoded value.
abbrev pub field_line : List ℕ → Option FieldText → List ℕ
field_line name None = []
field_line name (Some field) = name ++ codes ": " ++ escaped (decoded (flat_of field.value)) ++ codes "\n"

-- The line of the first field with a name, if the text has one.
unfoldable pub header_line : List ℕ → List ℕ → List ℕ
header_line text name = field_line name (first_named name (fields_of text))

-- The links to the text of a message and to its thread.
unfoldable pub links_line : List ℕ → List ℕ → List ℕ
links_line name id =
    codes "<a href=\"" ++ address name id ++ codes "raw\">raw</a> <a href=\"" ++ address name id
    ++ codes "t/\">thread</a>\n"

-- The indent of a line in a thread: two spaces for each level, of which 40 are shown.
abbrev pub indent : ℕ → List ℕ
indent depth = replicate (2 * min depth 40) 32

-- The line of a mail in a thread, or of a mail that is only known by its id.
abbrev pub entry_line : List ℕ → ThreadEntry → List ℕ
entry_line name (Mail row) = row_line name row.now
entry_line name (Missing id) = codes "[not found] " ++ escaped id.now ++ codes "\n"

-- A line of a thread.
abbrev pub thread_line : List ℕ → ThreadLine → List ℕ
thread_line name line = indent line.depth ++ entry_line name line.entry
