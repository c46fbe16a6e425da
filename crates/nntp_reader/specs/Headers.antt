-- What OVER and HDR say (RFC 3977, sections 8.3 and 8.5).
use Rattle.std.specs.Prelude.{ℕ, List, [], ◌++◌, codes, Option, Some, None, Result, Ok, Err}
use Rattle.std.specs.List.{flat_map}
use Rattle.mail_forms.specs.NamedValues.{flat_first}
use Rattle.nntp_words.specs.declared.numbers.Range.{Range}
use Rattle.arch_model.specs.Archives.{Entry, Archive, live, text_of}
use Rattle.arch_model.specs.Listings.{row_in}
use Rattle.wire_replies.specs.Blocks.{crlf_line, block_end}
use Rattle.nntp_reader.specs.Commands.{Articles, Single, Within}
use Rattle.nntp_reader.specs.Choices.{choice_of, range_start}
use Rattle.nntp_reader.specs.Facts.{fact_line, fact_lines, header_line}
use Rattle.nntp_reader.specs.Notices.{notice_line}
use Rattle.shelf_doors.specs.Numbers.{live_in}
use Rattle.nntp_reader.specs.declared.choice.Chosen.{Chosen}
use Rattle.nntp_reader.specs.declared.fact.Fact.{Fact}
use Rattle.nntp_reader.specs.declared.group.Group.{Group}
use Rattle.nntp_reader.specs.declared.notice.Notice.{Notice}

-- The line before the overview lines.
abbrev pub over_start : List ℕ
over_start = crlf_line (codes "224 overview follows")

-- The line before the values of HDR.
abbrev pub header_start : List ℕ
header_start = crlf_line (codes "225 headers follow")

-- A first line, what rows give of one message, and the end; or why there is none.
abbrev pub single_words : List ℕ → Fact → Archive → Result Chosen Notice → List ℕ
single_words start what a (Ok c) =
    start ++ (fact_line what c.shown (row_in a.config.form (live a.entries) c.number) ++ block_end)
single_words start what a (Err refusal) = notice_line refusal

-- The same of the live numbers in a range.
abbrev pub range_words : List ℕ → Fact → Archive → Range → Result ℕ Notice → List ℕ
range_words start what a range (Ok n) =
    start ++ (fact_lines what a range.first range.last ++ block_end)
range_words start what a range (Err refusal) = notice_line refusal

-- What rows give of the articles that a command names.
abbrev pub facts_words : List ℕ → Fact → Archive → Group → Articles → List ℕ
facts_words start what a g (Single article) = single_words start what a (choice_of a g article)
facts_words start what a g (Within range) = range_words start what a range (range_start a g range)

-- The line of a field of a text, after a number that is shown. Only a live message is asked for.
abbrev pub field_line : List ℕ → ℕ → Option (List ℕ) → List ℕ
field_line name shown None = []
field_line name shown (Some text) = header_line shown (flat_first name text)

-- The line of a number.
abbrev pub field_at : List ℕ → List Entry → ℕ → List ℕ
field_at name entries n = field_line name n (text_of entries n)

-- The lines of a field of the live messages from `first` to `last`, in order.
unfoldable pub field_lines : List ℕ → List Entry → ℕ → ℕ → List ℕ
field_lines name entries first last = flat_map (field_at name entries) (live_in entries first last)

-- The same as a reply.
abbrev pub fields_block : List ℕ → List Entry → ℕ → ℕ → List ℕ
fields_block name entries first last =
    header_start ++ (field_lines name entries first last ++ block_end)

-- What HDR says of a field of one message.
abbrev pub field_words : Archive → List ℕ → Result Chosen Notice → List ℕ
field_words a name (Ok c) =
    header_start ++ (field_line name c.shown (text_of (live a.entries) c.number) ++ block_end)
field_words a name (Err refusal) = notice_line refusal
