-- The table of a reader's commands: what each says of an archive, at a moment, to a session with a
-- group (RFC 3977, sections 5 to 8).
use Rattle.std.specs.Prelude.{ℕ, Bool, false, List, Result, Ok, Err, is_ok}
use Rattle.nntp_words.specs.declared.numbers.Range.{Range}
use Rattle.arch_model.specs.Archives.{Archive, live}
use Rattle.line_door.specs.Acts.{Departure}
use Rattle.line_door.specs.Readers.{LineReply}
use Rattle.shelf_doors.specs.Ways.{ShelfReply, replies, streams, ends, over, in_each_way}
use Rattle.nntp_reader.specs.Commands.{Command, Capabilities, ModeReader, Date, Help, Quit, Post, Next, Last, Group, ListGroup, Reads, Stat, Over, Headers, Lists, NewGroups, NewNews, Mistaken, Unknown, Articles, Single, Within, Header, Bytes, Field, command_of}
use Rattle.nntp_reader.specs.Commands as commands
use Rattle.nntp_reader.specs.Notices.{notice_line, refused_code}
use Rattle.nntp_reader.specs.Groups.{group_words, group_after, list_group_words, list_group_after}
use Rattle.nntp_reader.specs.Choices.{choice_of, range_start, next_of, previous_of}
use Rattle.nntp_reader.specs.Articles.{read_words, chosen_words, group_chosen, step_words, step_after}
use Rattle.nntp_reader.specs.Headers.{over_start, header_start, facts_words, fields_block, field_words}
use Rattle.nntp_reader.specs.Lists.{capabilities_words, help_words, list_words, new_groups_words, new_news_words}
use Rattle.nntp_reader.specs.Dates.{date_words, year_at}
use Rattle.nntp_reader.specs.declared.fact.Fact.TheVariants as fact
use Rattle.nntp_reader.specs.declared.group.Group as session
use Rattle.nntp_reader.specs.declared.notice.Notice.{Notice}
use Rattle.nntp_reader.specs.declared.notice.Notice.TheVariants as notice

-- A reply: its words, whether they are streamed, and the group after it (None if the session is
-- closed).
abbrev pub NewsReply : Type 0
NewsReply = ShelfReply session.Group

-- `HDR` of a field over a range, if one of its messages is live. It is streamed, since a text is read
-- for each.
abbrev pub fields_reply : Archive → session.Group → List ℕ → Range → Result ℕ Notice → NewsReply
fields_reply a g name range (Ok n) =
    streams g (fields_block name (live a.entries) range.first range.last)
fields_reply a g name range (Err refusal) = replies g (notice_line refusal)

-- `HDR` of a field.
abbrev pub field_reply : Archive → session.Group → List ℕ → Articles → NewsReply
field_reply a g name (Single article) = replies g (field_words a name (choice_of a g article))
field_reply a g name (Within range) = fields_reply a g name range (range_start a g range)

-- `HDR F [range or ID]`.
abbrev pub header_reply : Archive → session.Group → Header → Articles → NewsReply
header_reply a g Bytes articles = replies g (facts_words header_start fact.Bytes a g articles)
header_reply a g commands.Lines articles =
    replies g (facts_words header_start fact.Lines a g articles)
header_reply a g (Field name) articles = field_reply a g name articles

-- The reply to a command.
abbrev pub answered : ℕ → Archive → session.Group → Command → NewsReply
answered moment a g Capabilities = replies g capabilities_words
answered moment a g ModeReader = replies g (notice_line notice.ReadOnly)
answered moment a g Date = replies g (date_words moment)
answered moment a g Help = replies g help_words
answered moment a g Quit = ends (notice_line notice.Bye)
answered moment a g Post = replies g (notice_line notice.NoPosting)
answered moment a g Next = replies (step_after g (next_of a g)) (step_words a (next_of a g))
answered moment a g Last = replies (step_after g (previous_of a g)) (step_words a (previous_of a g))
answered moment a g (Group name) = replies (group_after a g name) (group_words a name)
answered moment a g (ListGroup name range) =
    replies (list_group_after a g name) (list_group_words a g name range)
answered moment a g (Reads what article) =
    replies (group_chosen g (choice_of a g article)) (read_words a what (choice_of a g article))
answered moment a g (Stat article) =
    replies (group_chosen g (choice_of a g article)) (chosen_words a (choice_of a g article))
answered moment a g (Over articles) = replies g (facts_words over_start fact.Overview a g articles)
answered moment a g (Headers header articles) = header_reply a g header articles
answered moment a g (Lists what wildmat) = replies g (list_words what wildmat a)
answered moment a g (NewGroups since) = replies g (new_groups_words since a)
answered moment a g (NewNews wildmat since) = replies g (new_news_words wildmat since a)
answered moment a g Mistaken = replies g (notice_line notice.Syntax)
answered moment a g Unknown = replies g (notice_line notice.Unknown)

-- HDR of a field of these articles reads a text: one of them is there.
abbrev pub field_reads : Archive → session.Group → Articles → Bool
field_reads a g (Single article) = is_ok (choice_of a g article)
field_reads a g (Within range) = is_ok (range_start a g range)

-- HDR of a header reads a text. Rows have the length and the number of lines.
abbrev pub header_reads : Archive → session.Group → Header → Articles → Bool
header_reads a g Bytes articles = false
header_reads a g commands.Lines articles = false
header_reads a g (Field name) articles = field_reads a g articles

-- The command reads a text, for which memory may run out and the disk may fail: ARTICLE, HEAD and BODY
-- of an article that is there, and HDR of a field of one.
abbrev pub reads_text : Archive → session.Group → Command → Bool
reads_text a g (Reads what article) = is_ok (choice_of a g article)
reads_text a g (Headers header articles) = header_reads a g header articles
reads_text a g other = false

-- The reply to a command in each way. One that reads a text says a line if it can't, and leaves the
-- group. Any other needs neither memory nor the disk.
abbrev pub in_way : ℕ → Archive → session.Group → Command → Departure → LineReply session.Group Archive
in_way moment a g command way = in_each_way refused_code a g (reads_text a g command)
    (reads_text a g command) (answered moment a g command) way

-- The reply at a moment to a line, without its line end, in each way.
abbrev pub line_answered : ℕ → Archive → session.Group → List ℕ → Departure → LineReply session.Group Archive
line_answered moment a g line way = in_way moment a g (command_of (year_at moment) line) way

-- The reply to a line that is too long.
abbrev pub too_long : Archive → session.Group → LineReply session.Group Archive
too_long a g = over a (replies g (notice_line notice.Syntax))
