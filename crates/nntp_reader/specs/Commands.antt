-- The commands of a reader, and the lines that spell them (RFC 3977, sections 5 to 8).
use Rattle.std.specs.Prelude.{ℕ, zero, Bool, true, false, List, [], ◌∷◌, codes, Option, Some, None, if◌then◌else◌, ℤ, pos, negsuc}
use Rattle.std.specs.List.{list_all, list_any}
use Rattle.mail_reader.specs.Lines.{is_name_byte}
use Rattle.nntp_words.specs.Moments.{moment_of}
use Rattle.nntp_words.specs.Numbers.{greatest, number_of, range_of, is_id}
use Rattle.nntp_words.specs.Wildmats.{is_special}
use Rattle.nntp_words.specs.declared.numbers.Range.{Range}
use Rattle.nntp_reader.specs.Words.{words_of, is_keyword}
use Rattle.nntp_reader.specs.declared.verb.Part.{Part}
use Rattle.nntp_reader.specs.declared.verb.Part.TheVariants as part
use Rattle.nntp_reader.specs.declared.verb.Listing.{Listing}
use Rattle.nntp_reader.specs.declared.verb.Listing.TheVariants as listing
use Rattle.nntp_reader.specs.declared.verb.Verb.{Verb}
use Rattle.nntp_reader.specs.declared.verb.Verb.TheVariants as verb

-- The article that a command names: the current one, the one with a number, or the one with an id.
pub data Article : Type 0 where
  Current : Article
  Numbered : ℕ → Article
  Identified : List ℕ → Article

-- The articles that a command names: one, or those with numbers in a range.
pub data Articles : Type 0 where
  Single : Article → Articles
  Within : Range → Articles

-- What HDR gives of an article: the length of its wire form, the number of lines of its body, or the
-- value of its first field with a name.
pub data Header : Type 0 where
  Bytes : Header
  Lines : Header
  Field : List ℕ → Header

-- A command. The last two are a known one with wrong arguments, and an unknown one.
pub data Command : Type 0 where
  Capabilities : Command
  ModeReader : Command
  Date : Command
  Help : Command
  Quit : Command
  Post : Command
  Next : Command
  Last : Command
  Group : List ℕ → Command
  ListGroup : Option (List ℕ) → Range → Command
  Reads : Part → Article → Command
  Stat : Article → Command
  Over : Articles → Command
  Headers : Header → Articles → Command
  Lists : Listing → Option (List ℕ) → Command
  NewGroups : ℕ → Command
  NewNews : List ℕ → ℕ → Command
  Mistaken : Command
  Unknown : Command

-- The range of all numbers that an article may have.
abbrev pub all_numbers : Range
all_numbers = record { first = 1; last = greatest }

-- The verb of a command that reads articles.
abbrev pub reading_verb : List ℕ → Option Verb
reading_verb word =
    if is_keyword (codes "ARTICLE") word then Some (verb.Read part.Article)
    else if is_keyword (codes "HEAD") word then Some (verb.Read part.Head)
    else if is_keyword (codes "BODY") word then Some (verb.Read part.Body)
    else if is_keyword (codes "STAT") word then Some verb.Stat
    else if is_keyword (codes "OVER") word then Some verb.Over
    else if is_keyword (codes "XOVER") word then Some verb.Over
    else if is_keyword (codes "HDR") word then Some verb.Header
    else None

-- The verb of a command on groups.
abbrev pub group_verb : List ℕ → Option Verb
group_verb word =
    if is_keyword (codes "GROUP") word then Some verb.Group
    else if is_keyword (codes "LISTGROUP") word then Some verb.ListGroup
    else if is_keyword (codes "NEXT") word then Some verb.Next
    else if is_keyword (codes "LAST") word then Some verb.Last
    else if is_keyword (codes "LIST") word then Some verb.List
    else if is_keyword (codes "NEWGROUPS") word then Some verb.NewGroups
    else if is_keyword (codes "NEWNEWS") word then Some verb.NewNews
    else None

-- The verb of a command on the session.
abbrev pub session_verb : List ℕ → Option Verb
session_verb word =
    if is_keyword (codes "CAPABILITIES") word then Some verb.Capabilities
    else if is_keyword (codes "MODE") word then Some verb.Mode
    else if is_keyword (codes "DATE") word then Some verb.Date
    else if is_keyword (codes "HELP") word then Some verb.Help
    else if is_keyword (codes "QUIT") word then Some verb.Quit
    else if is_keyword (codes "POST") word then Some verb.Post
    else None

-- The first of two verbs that is there.
abbrev pub verb_or : Option Verb → Option Verb → Option Verb
verb_or None other = other
verb_or (Some found) other = Some found

-- The verb that a word spells, in any case.
abbrev pub verb_of : List ℕ → Option Verb
verb_of word = verb_or (reading_verb word) (verb_or (group_verb word) (session_verb word))

-- A command without arguments.
abbrev pub alone : Command → List (List ℕ) → Command
alone command [] = command
alone command (word ∷ words) = Mistaken

-- `CAPABILITIES [keyword]`. The keyword may be any word.
abbrev pub capabilities_with : List (List ℕ) → Command
capabilities_with [] = Capabilities
capabilities_with (keyword ∷ words) = alone Capabilities words

-- `MODE READER`.
abbrev pub mode_with : List (List ℕ) → Command
mode_with [] = Mistaken
mode_with (word ∷ words) =
    if is_keyword (codes "READER") word then alone ModeReader words else Mistaken

-- `GROUP G`.
abbrev pub group_with : List (List ℕ) → Command
group_with [] = Mistaken
group_with (name ∷ words) = alone (Group name) words

-- The command on the numbers in a range, if the word is one.
abbrev pub list_group_within : List ℕ → Option Range → Command
list_group_within name None = Mistaken
list_group_within name (Some range) = ListGroup (Some name) range

-- `LISTGROUP [G [range]]`.
abbrev pub list_group_with : List (List ℕ) → Command
list_group_with [] = ListGroup None all_numbers
list_group_with (name ∷ []) = ListGroup (Some name) all_numbers
list_group_with (name ∷ range ∷ words) = alone (list_group_within name (range_of range)) words

-- The article with a number, if there is one.
abbrev pub numbered : Option ℕ → Option Article
numbered None = None
numbered (Some n) = Some (Numbered n)

-- The article that a word names by its id or its number.
abbrev pub article_named : List ℕ → Option Article
article_named word = if is_id word then Some (Identified word) else numbered (number_of word)

-- `[N or ID]`.
abbrev pub article_in : List (List ℕ) → Option Article
article_in [] = Some Current
article_in (word ∷ []) = article_named word
article_in (word ∷ other ∷ words) = None

-- The articles in a range, if there is one.
abbrev pub ranged : Option Range → Option Articles
ranged None = None
ranged (Some range) = Some (Within range)

-- The articles that a word names by an id or by a range of numbers.
abbrev pub articles_named : List ℕ → Option Articles
articles_named word =
    if is_id word then Some (Single (Identified word)) else ranged (range_of word)

-- `[range or ID]`.
abbrev pub articles_in : List (List ℕ) → Option Articles
articles_in [] = Some (Single Current)
articles_in (word ∷ []) = articles_named word
articles_in (word ∷ other ∷ words) = None

-- `ARTICLE`, `HEAD` or `BODY`, and an article.
abbrev pub read_of : Part → Option Article → Command
read_of what None = Mistaken
read_of what (Some article) = Reads what article

-- `STAT`, and an article.
abbrev pub stat_of : Option Article → Command
stat_of None = Mistaken
stat_of (Some article) = Stat article

-- `OVER`, and articles.
abbrev pub over_of_articles : Option Articles → Command
over_of_articles None = Mistaken
over_of_articles (Some articles) = Over articles

-- The header that a word names: `:bytes` or `:lines`, in any case, or the name of a field (RFC 5322,
-- section 2.2).
abbrev pub header_named : List ℕ → Option Header
header_named word =
    if is_keyword (codes ":bytes") word then Some Bytes
    else if is_keyword (codes ":lines") word then Some Lines
    else if list_all is_name_byte word then Some (Field word)
    else None

-- `HDR`, a header and articles.
abbrev pub headers_of : Option Header → Option Articles → Command
headers_of (Some header) (Some articles) = Headers header articles
headers_of _ _ = Mistaken

-- `HDR F [range or ID]`.
abbrev pub header_with : List (List ℕ) → Command
header_with [] = Mistaken
header_with (word ∷ words) = headers_of (header_named word) (articles_in words)

-- What LIST lists, by its keyword in any case.
abbrev pub listing_named : List ℕ → Option Listing
listing_named word =
    if is_keyword (codes "ACTIVE") word then Some listing.Active
    else if is_keyword (codes "ACTIVE.TIMES") word then Some listing.ActiveTimes
    else if is_keyword (codes "NEWSGROUPS") word then Some listing.Newsgroups
    else if is_keyword (codes "OVERVIEW.FMT") word then Some listing.OverviewFormat
    else if is_keyword (codes "HEADERS") word then Some listing.Headers
    else None

-- `[wildmat]`, for a list of groups.
abbrev pub groups_listed : Listing → List (List ℕ) → Command
groups_listed what [] = Lists what None
groups_listed what (wildmat ∷ words) =
    if list_any is_special wildmat then Mistaken else alone (Lists what (Some wildmat)) words

-- `[MSGID or RANGE]`, in any case, which makes no difference.
abbrev pub headers_listed : List (List ℕ) → Command
headers_listed [] = Lists listing.Headers None
headers_listed (word ∷ words) =
    if is_keyword (codes "MSGID") word then alone (Lists listing.Headers None) words
    else if is_keyword (codes "RANGE") word then alone (Lists listing.Headers None) words
    else Mistaken

-- What follows the keyword of LIST.
abbrev pub listed_with : Option Listing → List (List ℕ) → Command
listed_with None words = Mistaken
listed_with (Some listing.Active) words = groups_listed listing.Active words
listed_with (Some listing.ActiveTimes) words = groups_listed listing.ActiveTimes words
listed_with (Some listing.Newsgroups) words = groups_listed listing.Newsgroups words
listed_with (Some listing.OverviewFormat) words = alone (Lists listing.OverviewFormat None) words
listed_with (Some listing.Headers) words = headers_listed words

-- `LIST [keyword ..]`. Without a keyword it is `LIST ACTIVE`.
abbrev pub list_with : List (List ℕ) → Command
list_with [] = Lists listing.Active None
list_with (word ∷ words) = listed_with (listing_named word) words

-- A moment, where one before 1970 counts as the first of 1970.
abbrev pub since_1970 : ℤ → ℕ
since_1970 (pos n) = n
since_1970 (negsuc n) = zero

-- The moment of a date and a time, if they are there.
abbrev pub since : Option ℤ → Option ℕ
since None = None
since (Some moment) = Some (since_1970 moment)

-- No word, or only `GMT` in any case. Times are in UTC.
abbrev pub ends_in_utc : List (List ℕ) → Bool
ends_in_utc [] = true
ends_in_utc (word ∷ []) = is_keyword (codes "GMT") word
ends_in_utc (word ∷ other ∷ words) = false

-- `date time [GMT]`, in a year.
abbrev pub moment_in : ℕ → List (List ℕ) → Option ℕ
moment_in year [] = None
moment_in year (date ∷ []) = None
moment_in year (date ∷ time ∷ words) =
    if ends_in_utc words then since (moment_of date time year) else None

-- `NEWGROUPS`, and a moment.
abbrev pub new_groups_of : Option ℕ → Command
new_groups_of None = Mistaken
new_groups_of (Some moment) = NewGroups moment

-- `NEWNEWS`, a wildmat and a moment.
abbrev pub new_news_of : List ℕ → Option ℕ → Command
new_news_of wildmat None = Mistaken
new_news_of wildmat (Some moment) =
    if list_any is_special wildmat then Mistaken else NewNews wildmat moment

-- `NEWNEWS wildmat date time [GMT]`.
abbrev pub new_news_with : ℕ → List (List ℕ) → Command
new_news_with year [] = Mistaken
new_news_with year (wildmat ∷ words) = new_news_of wildmat (moment_in year words)

-- The command of a verb and its arguments, in a year.
abbrev pub command_with : Verb → ℕ → List (List ℕ) → Command
command_with verb.Capabilities year words = capabilities_with words
command_with verb.Mode year words = mode_with words
command_with verb.Date year words = alone Date words
command_with verb.Help year words = alone Help words
command_with verb.Quit year words = alone Quit words
command_with verb.Post year words = alone Post words
command_with verb.Next year words = alone Next words
command_with verb.Last year words = alone Last words
command_with verb.Group year words = group_with words
command_with verb.ListGroup year words = list_group_with words
command_with (verb.Read what) year words = read_of what (article_in words)
command_with verb.Stat year words = stat_of (article_in words)
command_with verb.Over year words = over_of_articles (articles_in words)
command_with verb.Header year words = header_with words
command_with verb.List year words = list_with words
command_with verb.NewGroups year words = new_groups_of (moment_in year words)
command_with verb.NewNews year words = new_news_with year words

-- The command of a verb, if it is known.
abbrev pub command_by : Option Verb → ℕ → List (List ℕ) → Command
command_by None year words = Unknown
command_by (Some known) year words = command_with known year words

-- The command of some words. No words are an unknown command.
abbrev pub command_in : ℕ → List (List ℕ) → Command
command_in year [] = Unknown
command_in year (word ∷ words) = command_by (verb_of word) year words

-- The command that a line spells, in a year.
unfoldable pub command_of : ℕ → List ℕ → Command
command_of year line = command_in year (words_of line)
