-- The dates of replies (RFC 9110, section 5.6.7).
use Rattle.std.specs.Prelude.{ℕ, ◌/◌, ◌%◌, List}
use Rattle.httpdate.specs.declared.parts.Parts.{Parts}
use Rattle.httpdate.specs.Calendar.{weekday}
use Rattle.httpdate.specs.Text.{imf_fixdate}
use Rattle.web_text.specs.Days.{Day, day_at}

-- A day of the week, a day, and so many seconds after it began.
abbrev pub clock_at : ℕ → Day → ℕ → Parts
clock_at wday d secs = record {
  year = d.year;
  mon = d.month;
  day = d.day;
  hour = secs / 3600;
  min = secs / 60 % 60;
  sec = secs % 60;
  wday = wday;
}

-- What a clock in UTC shows so many seconds after the start of 1970.
abbrev pub parts_at : ℕ → Parts
parts_at secs = clock_at (weekday (secs / 86400)) (day_at (secs / 86400)) (secs % 86400)

-- The date of that moment.
unfoldable pub reply_date : ℕ → List ℕ
reply_date secs = imf_fixdate (parts_at secs)
