-- Days, by which messages are searched (RFC 3501, section 6.4.4, BEFORE and SENTBEFORE).
use Rattle.std.specs.Prelude.{ℕ, nat_le, nat_lt, Bool, ◌&&◌, ◌||◌, ◌==◌, min, if◌then◌else◌, ℤ, pos, negsuc, ◌+ℤ◌, ◌*ℤ◌}
use Rattle.arch_base.specs.Moments.{last_moment}
use Rattle.mail_date.specs.declared.moment.Moment.{Moment}
use Rattle.mail_date.specs.declared.moment.CivilDate.{CivilDate}
use Rattle.web_text.specs.Days.{date_at}
use Rattle.imap_syntax.specs.declared.keys.Date.{Date}

-- What a clock shows, as seconds since 1970; or others before 1970 and after 9999.
abbrev pub shown_or : ℤ → ℕ → ℕ
shown_or (pos n) secs = if nat_le n last_moment then n else secs
shown_or (negsuc n) secs = secs

-- What a clock in a moment's zone shows, as seconds since 1970. Before 1970 and after 9999 it is a
-- clock in UTC.
abbrev pub shown_seconds : Moment → ℕ
shown_seconds m =
    shown_or (pos (min m.secs last_moment) +ℤ (m.zone *ℤ pos 60)) (min m.secs last_moment)

-- The day of an arrival, in UTC.
abbrev pub arrival_day : ℕ → CivilDate
arrival_day secs = date_at (min secs last_moment)

-- The day of a moment in its own zone.
abbrev pub day_shown : Moment → CivilDate
day_shown m = date_at (shown_seconds m)

-- A day is before another: by the year, the month and the day of the month.
abbrev pub is_day_before : CivilDate → Date → Bool
is_day_before day other =
    nat_lt day.year other.year || (day.year == other.year
    && (nat_lt day.month other.month || (day.month == other.month && nat_lt day.day other.day)))

-- A day is the same as another.
abbrev pub is_day : CivilDate → Date → Bool
is_day day other = day.year == other.year && day.month == other.month && day.day == other.day
