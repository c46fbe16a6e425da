-- What ARTICLE, HEAD, BODY and STAT say of a message (RFC 3977, section 6.2).
use Rattle.std.specs.Prelude.{ℕ, List, [], ◌∷◌, ◌++◌, codes, decimal, Option, Some, None, Result, Ok, Err}
use Rattle.mail_reader.specs.Bodies.{body_of}
use Rattle.mail_reader.specs.Fields.{fields_of}
use Rattle.mail_reader.specs.Laws.{wholes}
use Rattle.arch_model.specs.Overviews.{id_fact}
use Rattle.mail_forms.specs.declared.row.Row.{Row}
use Rattle.arch_model.specs.Archives.{Archive, live, text_of}
use Rattle.arch_model.specs.Listings.{row_in}
use Rattle.wire_replies.specs.Blocks.{crlf_line, block_lines, block_end}
use Rattle.nntp_reader.specs.Notices.{notice_line}
use Rattle.nntp_reader.specs.declared.choice.Chosen.{Chosen}
use Rattle.nntp_reader.specs.declared.group.Group.{Group}
use Rattle.nntp_reader.specs.declared.group.Group.TheVariants as group
use Rattle.nntp_reader.specs.declared.notice.Notice.{Notice}
use Rattle.nntp_reader.specs.declared.verb.Part.{Part}
use Rattle.nntp_reader.specs.declared.verb.Part.TheVariants as part

-- The header of a text: its fields, in order, without the empty line after them (RFC 5322, section
-- 2.1).
unfoldable pub header_of : List ℕ → List ℕ
header_of text = wholes (fields_of text)

-- The code of a reply with a part.
abbrev pub part_code : Part → List ℕ
part_code part.Article = codes "220 "
part_code part.Head = codes "221 "
part_code part.Body = codes "222 "

-- A code, a number and an id.
abbrev pub status_line : List ℕ → ℕ → List ℕ → List ℕ
status_line code shown id = code ++ (decimal shown ++ 32 ∷ crlf_line id)

-- The bytes of a part of a text.
abbrev pub part_of : Part → List ℕ → List ℕ
part_of part.Article text = text
part_of part.Head text = header_of text
part_of part.Body text = body_of text

-- A part of a text, as a block.
abbrev pub part_words : Part → ℕ → List ℕ → List ℕ
part_words what shown text = status_line (part_code what) shown (id_fact text)
    ++ (block_lines (part_of what text) ++ block_end)

-- The part of a live message. Only a live one is asked for.
abbrev pub text_words : Part → ℕ → Option (List ℕ) → List ℕ
text_words what shown None = []
text_words what shown (Some text) = part_words what shown text

-- The id of a row. Only that of a live message is asked for.
abbrev pub row_id : Option Row → List ℕ
row_id None = []
row_id (Some row) = row.id

-- A number and the id of its message, for STAT, NEXT and LAST.
abbrev pub stat_words : Archive → ℕ → ℕ → List ℕ
stat_words a shown number =
    status_line (codes "223 ") shown (row_id (row_in a.config.form (live a.entries) number))

-- What ARTICLE, HEAD or BODY says of a message, if there is one.
abbrev pub read_words : Archive → Part → Result Chosen Notice → List ℕ
read_words a what (Ok c) = text_words what c.shown (text_of (live a.entries) c.number)
read_words a what (Err refusal) = notice_line refusal

-- What STAT says of a message, if there is one.
abbrev pub chosen_words : Archive → Result Chosen Notice → List ℕ
chosen_words a (Ok c) = stat_words a c.shown c.number
chosen_words a (Err refusal) = notice_line refusal

-- The group after a choice. A refusal leaves it.
abbrev pub group_chosen : Group → Result Chosen Notice → Group
group_chosen g (Ok c) = c.after
group_chosen g (Err refusal) = g

-- What NEXT or LAST says of a number, if there is one.
abbrev pub step_words : Archive → Result ℕ Notice → List ℕ
step_words a (Ok n) = stat_words a n n
step_words a (Err refusal) = notice_line refusal

-- The group after NEXT or LAST: the number is the current one. A refusal leaves it.
abbrev pub step_after : Group → Result ℕ Notice → Group
step_after g (Ok n) = group.Selected (Some n)
step_after g (Err refusal) = g
