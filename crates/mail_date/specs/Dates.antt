-- Dates, and the moments that they name.
use Rattle.std.specs.Prelude.{◌≡◌, ℕ, ◌+◌, ◌*◌, ◌≤◌, min, Option, Some, None, ℤ, pos, ◌+ℤ◌, ◌-ℤ◌, ◌*ℤ◌}
use Rattle.std.specs.Int.{IsInRange}
use Rattle.jiff_core.specs.Calendar.{days_from_civil, days_in_month}
use Rattle.mail_date.specs.declared.pieces.Clock.{Clock}
use Rattle.mail_date.specs.declared.moment.Moment.{Moment}
use Rattle.mail_date.specs.declared.moment.CivilDate.{CivilDate}

-- The last second of the year 9999.
abbrev pub last_second : ℕ
last_second = 253402300799

-- The date of these pieces, if each is there.
abbrev pub joined : Option ℕ → Option ℕ → Option ℕ → Option Clock → Option ℤ → Option CivilDate
joined (Some day) (Some month) (Some year) (Some clock) (Some zone) =
    Some (record {
      year = year;
      month = month;
      day = day;
      hour = clock.hour;
      minute = clock.minute;
      second = clock.second;
      zone = zone;
    })
joined _ _ _ _ _ = None

-- The calendar has the day, in a year from 1970 to 9999.
pub record IsValidDay (date : CivilDate) : Type 0 where
  pub year : IsInRange 1970 9999 date.year
  pub month : IsInRange 1 12 date.month
  pub day : IsInRange 1 (days_in_month (pos date.year) date.month) date.day

-- The calendar has the day, and a clock shows the time. In a leap second it shows second 60.
pub record IsValid (date : CivilDate) : Type 0 where
  pub day : IsValidDay date
  pub hour : date.hour ≤ 23
  pub minute : date.minute ≤ 59
  pub second : date.second ≤ 60

-- The second of the day. A second 60 counts as second 59.
abbrev pub second_of_day : CivilDate → ℕ
second_of_day date = date.hour * 3600 + date.minute * 60 + min date.second 59

-- The seconds from the start of 1970, on the clock that shows the date, to the time that it shows.
abbrev pub civil_seconds : CivilDate → ℤ
civil_seconds date =
    (days_from_civil (pos date.year) date.month date.day *ℤ pos 86400) +ℤ pos (second_of_day date)

-- The seconds since 1970 in UTC of what a clock in a zone shows.
abbrev pub seconds_of : CivilDate → ℤ
seconds_of date = civil_seconds date -ℤ (date.zone *ℤ pos 60)

-- The date names the moment, which in UTC is from the first second of 1970 to the last of 9999.
pub record IsMomentOf (date : CivilDate) (moment : Moment) : Type 0 where
  pub valid : IsValid date
  pub secs : pos moment.secs ≡ seconds_of date
  pub bound : moment.secs ≤ last_second
  pub zone : moment.zone ≡ date.zone
