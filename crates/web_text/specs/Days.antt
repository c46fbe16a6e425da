-- The date of a moment in UTC, day by day from the start of 1970.
use Rattle.std.specs.Prelude.{ℕ, zero, suc, ◌+◌, ◌/◌, ◌%◌, nat_lt, List, if◌then◌else◌, pos}
use Rattle.jiff_core.specs.Calendar.{days_in_month}
use Rattle.mail_date.specs.declared.moment.CivilDate.{CivilDate}
use Rattle.mail_date.specs.Printed.{page_text, rfc3339_text}

-- A day of the calendar.
pub record Day : Type 0 where
  pub year : ℕ
  pub month : ℕ
  pub day : ℕ

-- The day with these numbers.
abbrev pub day_of : ℕ → ℕ → ℕ → Day
day_of year month day = record { year = year; month = month; day = day }

-- The day after a day: the next of its month, or the first of the next month, or of the next year.
abbrev pub next_day : Day → Day
next_day d =
    if nat_lt d.day (days_in_month (pos d.year) d.month) then day_of d.year d.month (d.day + 1)
    else if nat_lt d.month 12 then day_of d.year (d.month + 1) 1
    else day_of (d.year + 1) 1 1

-- The day so many days after the first of January 1970.
unfoldable pub day_at : ℕ → Day
day_at zero = day_of 1970 1 1
day_at (suc n) = next_day (day_at n)

-- A day, and so many seconds after it began.
abbrev pub time_of : Day → ℕ → CivilDate
time_of d secs = record {
  year = d.year;
  month = d.month;
  day = d.day;
  hour = secs / 3600;
  minute = secs / 60 % 60;
  second = secs % 60;
  zone = pos 0;
}

-- The date that a clock in UTC shows, so many seconds after the start of 1970.
unfoldable pub date_at : ℕ → CivilDate
date_at secs = time_of (day_at (secs / 86400)) (secs % 86400)

-- A moment in UTC as a feed has it (RFC 3339, section 5.6).
unfoldable pub moment_text : ℕ → List ℕ
moment_text secs = rfc3339_text (date_at secs)

-- A moment in UTC as a page has it, to the minute.
unfoldable pub page_moment : ℕ → List ℕ
page_moment secs = page_text (date_at secs)
