-- The markup of lines and of pages: that of their links.
use Rattle.std.proofs.Common.{◌≡◌, ℕ, zero, suc, ◌+◌, ◌*◌, ◌%◌, ◌^◌, ◌<◌, ◌≤◌, Bool, true, false, cond, eqb, List, [], ◌∷◌, ◌++◌, Option, Some, None, length, take, drop, refl, ap, ◌∙◌, arith, append_assoc, append-nil, min, length-take, length-drop}
use Rattle.std.specs.Prelude.{codes, filter, replicate}
use Rattle.std.specs.Fmt.{decimal}
use Rattle.std.specs.List.{flat_map}
use Rattle.form_urlencoded.specs.Form.{byte_serialize}
use Rattle.std.proofs.lemmas.Bool.{eqb-true, eqb-false}
use Rattle.std.proofs.lemmas.Fmt.{decimal_by_steps_wide}
use Rattle.arch_base.specs.Names.{IsArchiveName}
use Rattle.mail_reader.specs.Fields.{FieldText, fields_of, first_named}
use Rattle.mail_reader.specs.Values.{flat_of}
use Rattle.mime_words.specs.Decoding.{decoded}
use Rattle.mail_forms.specs.declared.row.Row.{Row}
use Rattle.web_text.specs.Escapes.{escaped, title_of}
use Rattle.web_text.specs.Markup.{markup}
use Rattle.web_text.proofs.Markup.{digit, more, and_none, none-append, none-cons, text_none, title_none, name_none, page_moment_none}
use Rattle.html_pages.specs.declared.thread_line.ThreadLine.{ThreadLine}
use Rattle.html_pages.specs.declared.thread_line.ThreadEntry.{ThreadEntry}
use Rattle.html_pages.specs.declared.thread_line.ThreadEntry.TheVariants.{Mail, Missing}
use Rattle.html_pages.specs.Pieces.{page_date, address}
use Rattle.html_pages.specs.Lines.{row_line, older_link, older_found, field_line, header_line, links_line, indent, entry_line, thread_line}
use Rattle.html_pages.specs.Pages.{page_of, shown_fields, message_lines, listing_of, search_of, message_of, thread_of}
use Rattle.html_pages.specs.Laws.{link_markup, links_markup, page_markup, is_of_mail, mail_count, ListingHasItsTags, SearchHasItsTags, MessageHasItsTags, ThreadHasItsTags}
use Rattle.html_pages.proofs.Markup.{address_none, form_none}

-- A page has the markup of its frame and of its lines.
framed : (title lines : List ℕ) (count : ℕ) → markup title ≡ [] → markup lines ≡ links_markup count → markup (page_of title lines) ≡ page_markup count
framed title lines count e f =
    let head = codes "<html><head><title>" in
    let crash_between = codes "</title></head><body><pre>" in
    let tail = codes "</pre></body></html>\n" in
    let front : markup ((head ++ title) ++ crash_between) ≡ codes "<><><><><><><>" =
    more (head ++ title) crash_between (codes "<><><>") (codes "<><><><>") (and_none head title (codes "<><><>") refl e) refl in
    more (((head ++ title) ++ crash_between) ++ lines) tail (codes "<><><><><><><>" ++ links_markup count) (codes "<><><>")
    (more ((head ++ title) ++ crash_between) lines (codes "<><><><><><><>") (links_markup count) front f) refl

-- A moment has none.
date_none : (secs : ℕ) → markup (page_date secs) ≡ []
date_none secs =
    let least : min secs 253402300799 ≤ 253402300799 = grind (arith) in
    page_moment_none (min secs 253402300799) least

-- The line of a mail has one link.
row_one : (name : List ℕ) (row : Row) → IsArchiveName name → markup (row_line name row) ≡ link_markup
unfolding row_line
row_one name row h =
    let a = page_date row.date.secs in
    let b = codes " <a href=\"" in
    let c = address name row.id in
    let d = codes "\">" in
    let e = title_of row.subject in
    let f = codes "</a> " in
    let g = escaped row.from in
    let start : markup (a ++ b) ≡ codes "<\"" = more a b [] (codes "<\"") (date_none row.date.secs) refl in
    let first : markup (((a ++ b) ++ c) ++ d) ≡ codes "<\"\">" = more ((a ++ b) ++ c) d (codes "<\"") (codes "\">") (and_none (a ++ b) c (codes "<\"") start (address_none name row.id h)) refl in
    let last : markup (((((a ++ b) ++ c) ++ d) ++ e) ++ f) ≡ link_markup = more ((((a ++ b) ++ c) ++ d) ++ e) f (codes "<\"\">") (codes "<>") (and_none (((a ++ b) ++ c) ++ d) e (codes "<\"\">") first (title_none row.subject)) refl in
    and_none ((((((a ++ b) ++ c) ++ d) ++ e) ++ f) ++ g) (codes "\n") link_markup (and_none (((((a ++ b) ++ c) ++ d) ++ e) ++ f) g link_markup last (text_none row.from)) refl

rows_links : (name : List ℕ) (rows : List Row) → IsArchiveName name → markup (flat_map (row_line name) rows) ≡ links_markup (length rows)
rows_links name [] h = refl
rows_links name (row ∷ rows) h = more (row_line name row) (flat_map (row_line name) rows) link_markup (links_markup (length rows)) (row_one name row h) (rows_links name rows h)

-- The link to older rows.
number_none : (n : ℕ) → n < 2 ^ 65 → markup (decimal n) ≡ []
number_none n h =
    decimal_by_steps_wide (λ (m : ℕ) (ds : List ℕ). markup ds ≡ []) (λ (m : ℕ) (l : m < 10). none-cons (48 + m) [] (digit m (omega arith)) refl)
    (λ (m : ℕ) (ds : List ℕ) (l : 10 ≤ m) (e : markup ds ≡ []). none-append ds ((48 + m % 10) ∷ []) e (none-cons (48 + m % 10) [] (digit (m % 10) (omega arith)) refl))
    n (omega arith)

older_one : (skip : ℕ) → skip < 2 ^ 64 → markup (codes "<a href=\"?o=" ++ decimal (skip + 200) ++ codes "\">older</a>\n") ≡ link_markup
older_one skip h =
    more (codes "<a href=\"?o=" ++ decimal (skip + 200)) (codes "\">older</a>\n") (codes "<\"") (codes "\"><>")
    (and_none (codes "<a href=\"?o=") (decimal (skip + 200)) (codes "<\"") refl (number_none (skip + 200) (omega arith))) refl

links-append : (m n : ℕ) → links_markup m ++ links_markup n ≡ links_markup (m + n)
links-append zero n = (let same : n ≡ 0 + n = omega arith in ap links_markup same)
links-append (suc m) n =
    let next : suc (m + n) ≡ suc m + n = omega arith in
    append_assoc link_markup (links_markup m) (links_markup n) ∙ ap (λ t. link_markup ++ t) (links-append m n) ∙ ap links_markup next

shown_links : (name : List ℕ) (rows : List Row) (skip : ℕ) → IsArchiveName name → skip < 2 ^ 64 → (none : Bool) → eqb (length (drop 200 rows)) 0 ≡ none
    → markup (flat_map (row_line name) (take 200 rows) ++ cond none [] (codes "<a href=\"?o=" ++ decimal (skip + 200) ++ codes "\">older</a>\n")) ≡ links_markup (min (length rows) 201)
shown_links name rows skip h l true e =
    let none : length (drop 200 rows) ≡ 0 = eqb-true (length (drop 200 rows)) 0 e in
    let count : length (take 200 rows) ≡ min (length rows) 201 = grind (arith, length-take 200 rows, length-drop 200 rows, none) in
    and_none (flat_map (row_line name) (take 200 rows)) [] (links_markup (min (length rows) 201)) (rows_links name (take 200 rows) h ∙ ap links_markup count) refl
shown_links name rows skip h l false e =
    let some : length (drop 200 rows) ≡ 0 → ⊥ = eqb-false (length (drop 200 rows)) 0 e in
    let count : length (take 200 rows) + 1 ≡ min (length rows) 201 = grind (arith, length-take 200 rows, length-drop 200 rows, some) in
    more (flat_map (row_line name) (take 200 rows)) (codes "<a href=\"?o=" ++ decimal (skip + 200) ++ codes "\">older</a>\n") (links_markup (length (take 200 rows))) link_markup
    (rows_links name (take 200 rows) h) (older_one skip l)
    ∙ links-append (length (take 200 rows)) 1 ∙ ap links_markup count

pub listing_tags : ListingHasItsTags
unfolding listing_of
listing_tags name rows skip h l =
    framed name (flat_map (row_line name) (take 200 rows) ++ older_link skip (length (drop 200 rows))) (min (length rows) 201)
    (name_none name h) (shown_links name rows skip h l (eqb (length (drop 200 rows)) 0) refl)

-- The page of a search.
found_one : (text : List ℕ) (skip : ℕ) → skip < 2 ^ 64
    → markup (codes "<a href=\"?q=" ++ byte_serialize text ++ codes "&amp;o=" ++ decimal (skip + 200) ++ codes "\">older</a>\n") ≡ link_markup
found_one text skip h =
    let a = codes "<a href=\"?q=" in
    let b = byte_serialize text in
    let c = codes "&amp;o=" in
    let d = decimal (skip + 200) in
    more (((a ++ b) ++ c) ++ d) (codes "\">older</a>\n") (codes "<\"") (codes "\"><>")
    (and_none ((a ++ b) ++ c) d (codes "<\"") (and_none (a ++ b) c (codes "<\"") (and_none a b (codes "<\"") refl (form_none text)) refl) (number_none (skip + 200) (omega arith))) refl

found_links : (name text : List ℕ) (rows : List Row) (skip : ℕ) → IsArchiveName name → skip < 2 ^ 64 → (none : Bool) → eqb (length (drop 200 rows)) 0 ≡ none
    → markup (flat_map (row_line name) (take 200 rows) ++ cond none [] (codes "<a href=\"?q=" ++ byte_serialize text ++ codes "&amp;o=" ++ decimal (skip + 200) ++ codes "\">older</a>\n")) ≡ links_markup (min (length rows) 201)
found_links name text rows skip h l true e =
    let none : length (drop 200 rows) ≡ 0 = eqb-true (length (drop 200 rows)) 0 e in
    let count : length (take 200 rows) ≡ min (length rows) 201 = grind (arith, length-take 200 rows, length-drop 200 rows, none) in
    and_none (flat_map (row_line name) (take 200 rows)) [] (links_markup (min (length rows) 201)) (rows_links name (take 200 rows) h ∙ ap links_markup count) refl
found_links name text rows skip h l false e =
    let some : length (drop 200 rows) ≡ 0 → ⊥ = eqb-false (length (drop 200 rows)) 0 e in
    let count : length (take 200 rows) + 1 ≡ min (length rows) 201 = grind (arith, length-take 200 rows, length-drop 200 rows, some) in
    more (flat_map (row_line name) (take 200 rows)) (codes "<a href=\"?q=" ++ byte_serialize text ++ codes "&amp;o=" ++ decimal (skip + 200) ++ codes "\">older</a>\n") (links_markup (length (take 200 rows))) link_markup
    (rows_links name (take 200 rows) h) (found_one text skip l)
    ∙ links-append (length (take 200 rows)) 1 ∙ ap links_markup count

pub search_tags : SearchHasItsTags
unfolding search_of
search_tags name text rows skip h l =
    framed name (flat_map (row_line name) (take 200 rows) ++ older_found text skip (length (drop 200 rows))) (min (length rows) 201)
    (name_none name h) (found_links name text rows skip h l (eqb (length (drop 200 rows)) 0) refl)

-- The page of a message.
field_none : (name : List ℕ) (field : Option FieldText) → markup name ≡ [] → markup (field_line name field) ≡ []
field_none name None e = refl
field_none name (Some field) e =
    none-append ((name ++ codes ": ") ++ escaped (decoded (flat_of field.value))) (codes "\n")
    (none-append (name ++ codes ": ") (escaped (decoded (flat_of field.value))) (none-append name (codes ": ") e refl) (text_none (decoded (flat_of field.value)))) refl

header_none : (text name : List ℕ) → markup name ≡ [] → markup (header_line text name) ≡ []
unfolding header_line
header_none text name e = field_none name (first_named name (fields_of text)) e

fields_none : (text : List ℕ) → markup (flat_map (header_line text) shown_fields) ≡ []
fields_none text =
    let line : List ℕ → List ℕ = header_line text in
    let date = none-append (line (codes "Date")) (line (codes "Message-ID") ++ []) (header_none text (codes "Date") refl) (none-append (line (codes "Message-ID")) [] (header_none text (codes "Message-ID") refl) refl) in
    let subject = none-append (line (codes "Subject")) (line (codes "Date") ++ (line (codes "Message-ID") ++ [])) (header_none text (codes "Subject") refl) date in
    let cc_ = none-append (line (codes "Cc")) (line (codes "Subject") ++ (line (codes "Date") ++ (line (codes "Message-ID") ++ []))) (header_none text (codes "Cc") refl) subject in
    let to = none-append (line (codes "To")) (line (codes "Cc") ++ (line (codes "Subject") ++ (line (codes "Date") ++ (line (codes "Message-ID") ++ [])))) (header_none text (codes "To") refl) cc_ in
    none-append (line (codes "From")) (line (codes "To") ++ (line (codes "Cc") ++ (line (codes "Subject") ++ (line (codes "Date") ++ (line (codes "Message-ID") ++ []))))) (header_none text (codes "From") refl) to

links_two : (name id : List ℕ) → IsArchiveName name → markup (links_line name id) ≡ links_markup 2
unfolding links_line
links_two name id h =
    let a = codes "<a href=\"" in
    let b = address name id in
    let c = codes "raw\">raw</a> <a href=\"" in
    let first : markup ((a ++ b) ++ c) ≡ codes "<\"\"><><\"" = more (a ++ b) c (codes "<\"") (codes "\"><><\"") (and_none a b (codes "<\"") refl (address_none name id h)) refl in
    more (((a ++ b) ++ c) ++ b) (codes "t/\">thread</a>\n") (codes "<\"\"><><\"") (codes "\"><>") (and_none ((a ++ b) ++ c) b (codes "<\"\"><><\"") first (address_none name id h)) refl

pub message_tags : MessageHasItsTags
unfolding message_of
message_tags name text body row h =
    let fields = flat_map (header_line text) shown_fields in
    let front = none-append ((fields ++ codes "\n") ++ escaped body) (codes "\n") (none-append (fields ++ codes "\n") (escaped body) (none-append fields (codes "\n") (fields_none text) refl) (text_none body)) refl in
    framed (title_of row.subject) (message_lines name row text body) 2 (title_none row.subject)
    (more (((fields ++ codes "\n") ++ escaped body) ++ codes "\n") (links_line name row.id) [] (links_markup 2) front (links_two name row.id h))

-- The page of a thread.
indent_none : (n : ℕ) → markup (replicate n 32) ≡ []
indent_none zero = refl
indent_none (suc n) = none-cons 32 (replicate n 32) refl (indent_none n)

entry_links : (name : List ℕ) (entry : ThreadEntry) → IsArchiveName name → markup (entry_line name entry) ≡ cond (is_of_mail entry) link_markup []
entry_links name (Mail row) h = row_one name row.now h
entry_links name (Missing id) h = none-append (codes "[not found] " ++ escaped id.now) (codes "\n") (none-append (codes "[not found] ") (escaped id.now) refl (text_none id.now)) refl

line_links : (name : List ℕ) (line : ThreadLine) → IsArchiveName name → markup (thread_line name line) ≡ cond (is_of_mail line.entry) link_markup []
line_links name line h = more (indent line.depth) (entry_line name line.entry) [] (cond (is_of_mail line.entry) link_markup []) (indent_none (2 * min line.depth 40)) (entry_links name line.entry h)

lines_by : (of_mail : Bool) (line : ThreadLine) (lines : List ThreadLine) (rest : List ℕ) → rest ≡ links_markup (mail_count lines) → cond of_mail link_markup [] ++ rest ≡ links_markup (length (cond of_mail (line ∷ filter (λ (each : ThreadLine). is_of_mail each.entry) lines) (filter (λ (each : ThreadLine). is_of_mail each.entry) lines)))
lines_by true line lines rest e = ap (λ t. link_markup ++ t) e
lines_by false line lines rest e = e

lines_links : (name : List ℕ) (lines : List ThreadLine) → IsArchiveName name → markup (flat_map (thread_line name) lines) ≡ links_markup (mail_count lines)
lines_links name [] h = refl
lines_links name (line ∷ lines) h =
    more (thread_line name line) (flat_map (thread_line name) lines) (cond (is_of_mail line.entry) link_markup []) (markup (flat_map (thread_line name) lines)) (line_links name line h) refl
    ∙ lines_by (is_of_mail line.entry) line lines (markup (flat_map (thread_line name) lines)) (lines_links name lines h)

pub thread_tags : ThreadHasItsTags
unfolding thread_of
thread_tags name row lines h = framed (title_of row.subject) (flat_map (thread_line name) lines) (mail_count lines) (title_none row.subject) (lines_links name lines h)
