-- The forms in which dates are printed.
use Rattle.std.specs.Prelude.{◌≡◌, ℕ, ◌+◌, ◌-◌, ◌/◌, ◌%◌, ◌≤◌, List, [], ◌∷◌, ◌++◌, slice_index_or, codes, if◌then◌else◌, nat_lt, ℤ, pos, negsuc, ◌+ℤ◌, ◌*ℤ◌, ◌≤ℤ◌, unsigned_abs}
use Rattle.mail_date.specs.declared.moment.Moment.{Moment}
use Rattle.mail_date.specs.declared.moment.CivilDate.{CivilDate}
use Rattle.mail_date.specs.Pieces.{month_names}
use Rattle.mail_date.specs.Dates.{last_second, IsValid, seconds_of}

-- What a clock in the moment's zone shows, as seconds since 1970.
abbrev pub clock_seconds : Moment → ℤ
clock_seconds moment = pos moment.secs +ℤ (moment.zone *ℤ pos 60)

-- A clock in the moment's zone shows a year from 1970 to 9999.
abbrev pub IsPrintable : Moment → Type 0
IsPrintable moment = (pos 0 ≤ℤ clock_seconds moment) × (clock_seconds moment ≤ℤ pos last_second)

-- A clock in the moment's zone shows this date at the moment.
pub record IsDateAt (moment : Moment) (date : CivilDate) : Type 0 where
  pub valid : IsValid date
  pub second : date.second ≤ 59
  pub secs : seconds_of date ≡ pos moment.secs
  pub zone : date.zone ≡ moment.zone

-- A number below 100 in two digits.
abbrev pub two_digits : ℕ → List ℕ
two_digits n = (48 + n / 10) ∷ (48 + n % 10) ∷ []

-- The first of two characters of a number below 100: a space if the number has one digit.
abbrev pub tens_or_space : ℕ → ℕ
tens_or_space n = if nat_lt n 10 then 32 else 48 + n / 10

-- A number below 100 in two characters, padded with a space.
abbrev pub two_places : ℕ → List ℕ
two_places n = tens_or_space n ∷ (48 + n % 10) ∷ []

-- A number below 10,000 in four digits.
abbrev pub four_digits : ℕ → List ℕ
four_digits n = two_digits (n / 100) ++ two_digits (n % 100)

-- The three letters of a month.
abbrev pub month_name : ℕ → List ℕ
month_name month = slice_index_or month_names (month - 1) []

-- The sign of a zone. UTC has a plus.
abbrev pub sign_of : ℤ → ℕ
sign_of (pos n) = 43
sign_of (negsuc n) = 45

-- A zone as `+hhmm` or `-hhmm`.
abbrev pub zone_text : ℤ → List ℕ
zone_text zone =
    sign_of zone ∷ (two_digits (unsigned_abs zone / 60) ++ two_digits (unsigned_abs zone % 60))

-- The hour and the minute as `hh:mm`.
abbrev pub minute_text : CivilDate → List ℕ
minute_text date = two_digits date.hour ++ codes ":" ++ two_digits date.minute

-- The time of day as `hh:mm:ss`.
abbrev pub clock_text : CivilDate → List ℕ
clock_text date = minute_text date ++ codes ":" ++ two_digits date.second

-- The day as `YYYY-MM-DD`.
abbrev pub day_text : CivilDate → List ℕ
day_text date =
    four_digits date.year ++ codes "-" ++ two_digits date.month ++ codes "-" ++ two_digits date.day

-- The date as `dd-Mon-yyyy hh:mm:ss +zzzz` (RFC 3501, 9, date-time without its quotes).
abbrev pub imap_text : CivilDate → List ℕ
imap_text date =
    two_places date.day ++ codes "-" ++ month_name date.month ++ codes "-" ++ four_digits date.year
    ++ codes " "
    ++ clock_text date ++ codes " " ++ zone_text date.zone

-- The date as `YYYY-MM-DDThh:mm:ssZ` (RFC 3339, 5.6).
abbrev pub rfc3339_text : CivilDate → List ℕ
rfc3339_text date = day_text date ++ codes "T" ++ clock_text date ++ codes "Z"

-- The date as `YYYY-MM-DD hh:mm`.
abbrev pub page_text : CivilDate → List ℕ
page_text date = day_text date ++ codes " " ++ minute_text date

-- A moment in UTC.
abbrev pub utc : ℕ → Moment
utc secs = record { secs = secs; zone = pos 0 }

-- The date in the moment's own zone, or in UTC if a clock in that zone shows a year before 1970 or
-- after 9999.
pub record IsShownDate (moment : Moment) (date : CivilDate) : Type 0 where
  pub own : IsPrintable moment → IsDateAt moment date
  pub other : (IsPrintable moment → ⊥) → IsDateAt (utc moment.secs) date

-- The text prints the moment in its zone, with `text_of` as the form of a date.
abbrev pub PrintsDate : (CivilDate → List ℕ) → Moment → List ℕ → Type 0
PrintsDate text_of moment text = (date : CivilDate) × IsShownDate moment date × (text ≡ text_of date)

-- The text prints a moment in UTC, with `text_of` as the form of a date.
abbrev pub PrintsUtc : (CivilDate → List ℕ) → ℕ → List ℕ → Type 0
PrintsUtc text_of secs text = (date : CivilDate) × IsDateAt (utc secs) date × (text ≡ text_of date)

-- A day of the month without padding.
abbrev pub plain_day : ℕ → List ℕ
plain_day n = if nat_lt n 10 then (48 + n) ∷ [] else two_digits n

-- The value of a Date field: `D Mon YYYY hh:mm:ss +hhmm` (RFC 5322, 3.3).
abbrev pub mail_text : CivilDate → List ℕ
mail_text date =
    plain_day date.day ++ codes " " ++ month_name date.month ++ codes " " ++ four_digits date.year
    ++ codes " "
    ++ clock_text date ++ codes " " ++ zone_text date.zone
