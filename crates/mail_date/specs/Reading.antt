-- Reads a date by its words. Proved of it: each text that is read consists of the parts of a date,
-- and each such text is read.
use Rattle.std.specs.Prelude.{ℕ, ℤ, pos, negsuc, Bool, true, ◌==◌, ◌&&◌, nat_le, List, [], ◌∷◌, slice_index, Option, Some, None, option_and_then, if◌then◌else◌}
use Rattle.jiff_core.specs.Calendar.{days_in_month}
use Rattle.mail_date.specs.declared.moment.Moment.{Moment}
use Rattle.mail_date.specs.declared.moment.CivilDate.{CivilDate}
use Rattle.mail_date.specs.Words.{words_of, without_day}
use Rattle.mail_date.specs.Pieces.{day_of, month_of, year_of, clock_of, zone_of}
use Rattle.mail_date.specs.Dates.{joined, last_second, seconds_of}

-- No word follows a date, or the first word that follows starts with a parenthesis: a comment.
abbrev pub is_comment : List (List ℕ) → Bool
is_comment [] = true
is_comment (word ∷ words) = slice_index word 0 == 40

-- The date that words spell: day, month, year, time of day and zone, after which only a comment may
-- follow.
abbrev pub date_of_words : List (List ℕ) → Option CivilDate
date_of_words (day ∷ month ∷ year ∷ clock ∷ zone ∷ others) =
    if is_comment others
    then joined (day_of day) (month_of month) (year_of year) (clock_of clock) (zone_of zone)
    else None
date_of_words _ = None

-- The date that a text spells, after an optional day's name and comma.
abbrev pub date_of : List ℕ → Option CivilDate
date_of text = date_of_words (words_of (without_day text))

-- The calendar has the day, in a year from 1970 to 9999.
abbrev pub is_valid_day : CivilDate → Bool
is_valid_day date =
    nat_le 1970 date.year && nat_le date.year 9999 && nat_le 1 date.month && nat_le date.month 12
    && nat_le 1 date.day
    && nat_le date.day (days_in_month (pos date.year) date.month)

-- A clock shows the time, which may be that of a leap second.
abbrev pub is_valid_time : CivilDate → Bool
is_valid_time date = nat_le date.hour 23 && nat_le date.minute 59 && nat_le date.second 60

-- The moment of these seconds since 1970, up to the end of the year 9999.
abbrev pub moment_from : ℤ → ℤ → Option Moment
moment_from (pos secs) zone =
    if nat_le secs last_second then Some (record { secs = secs; zone = zone }) else None
moment_from (negsuc n) zone = None

-- The moment of a date, if the date is valid.
abbrev pub moment_at : CivilDate → Option Moment
moment_at date = if is_valid_day date && is_valid_time date
    then moment_from (seconds_of date) date.zone else None

-- The moment that a text spells, if it spells one.
unfoldable pub moment_in : List ℕ → Option Moment
moment_in text = option_and_then moment_at (date_of text)
