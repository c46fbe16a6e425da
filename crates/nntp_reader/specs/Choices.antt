-- Which article a command is about, and which are next and last (RFC 3977, sections 6.1 and 6.2).
use Rattle.std.specs.Prelude.{ℕ, ◌+◌, Option, Some, None, Result, Ok, Err, if◌then◌else◌}
use Rattle.nntp_words.specs.declared.numbers.Range.{Range}
use Rattle.arch_model.specs.Archives.{Archive, live}
use Rattle.arch_model.specs.Listings.{number_of_id}
use Rattle.nntp_reader.specs.Commands.{Article, Current, Numbered, Identified}
use Rattle.shelf_doors.specs.Numbers.{is_live, live_in, first_of, least_live, greatest_below}
use Rattle.nntp_reader.specs.declared.choice.Chosen.{Chosen}
use Rattle.nntp_reader.specs.declared.group.Group.{Group}
use Rattle.nntp_reader.specs.declared.group.Group.TheVariants as group
use Rattle.nntp_reader.specs.declared.notice.Notice.{Notice}
use Rattle.nntp_reader.specs.declared.notice.Notice.TheVariants as notice

-- A message by its number, the number that is shown for it, and the group after the command.
abbrev pub chosen : ℕ → ℕ → Group → Chosen
chosen number shown after = record { number = number; shown = shown; after = after }

-- The message with a number, if it is live.
abbrev pub if_live : Archive → ℕ → ℕ → Group → Notice → Result Chosen Notice
if_live a number shown after refusal =
    if is_live (live a.entries) number then Ok (chosen number shown after) else Err refusal

-- The current message.
abbrev pub current_of : Archive → Group → Result Chosen Notice
current_of a group.Unselected = Err notice.NoGroup
current_of a (group.Selected None) = Err notice.NoCurrent
current_of a (group.Selected (Some n)) = if_live a n n (group.Selected (Some n)) notice.NoCurrent

-- The message with a number, which becomes the current one.
abbrev pub numbered_of : Archive → Group → ℕ → Result Chosen Notice
numbered_of a group.Unselected n = Err notice.NoGroup
numbered_of a (group.Selected current) n = if_live a n n (group.Selected (Some n)) notice.NoNumber

-- The message that an id names, if it names one. Its number is shown as 0, and the group stays.
abbrev pub identified_by : Archive → Group → Option ℕ → Result Chosen Notice
identified_by a g None = Err notice.NoArticle
identified_by a g (Some number) = if_live a number 0 g notice.NoArticle

-- The message that is named, or why there is none.
abbrev pub choice_of : Archive → Group → Article → Result Chosen Notice
choice_of a g Current = current_of a g
choice_of a g (Numbered n) = numbered_of a g n
choice_of a g (Identified id) = identified_by a g (number_of_id (live a.entries) id)

-- The number, or why there is none.
abbrev pub number_or : Option ℕ → Notice → Result ℕ Notice
number_or None refusal = Err refusal
number_or (Some n) refusal = Ok n

-- The least live number in a range, for a command on the range.
abbrev pub range_start : Archive → Group → Range → Result ℕ Notice
range_start a group.Unselected range = Err notice.NoGroup
range_start a (group.Selected current) range =
    number_or (first_of (live_in (live a.entries) range.first range.last)) notice.NoNumber

-- The next live number after the current one, which may be live or gone.
abbrev pub next_of : Archive → Group → Result ℕ Notice
next_of a group.Unselected = Err notice.NoGroup
next_of a (group.Selected None) = Err notice.NoCurrent
next_of a (group.Selected (Some n)) =
    number_or (least_live (live a.entries) (n + 1)) notice.NoNext

-- The last live number before the current one, which may be live or gone.
abbrev pub previous_of : Archive → Group → Result ℕ Notice
previous_of a group.Unselected = Err notice.NoGroup
previous_of a (group.Selected None) = Err notice.NoCurrent
previous_of a (group.Selected (Some n)) =
    number_or (greatest_below (live a.entries) n) notice.NoPrevious
