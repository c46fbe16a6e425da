-- Days, which are counted from 0 for 1 January 1970, and ranges of days.
use Rattle.std.specs.Prelude.{ℕ, ◌/◌, Bool, ◌&&◌, ◌==◌, nat_le, List, [], ◌∷◌, length, slice_index, take, drop, Option, Some, None, if◌then◌else◌, ℤ, pos, negsuc}
use Rattle.jiff_core.specs.Calendar.{days_in_month, days_from_civil}
use Rattle.mail_date.specs.declared.moment.Moment.{Moment}
use Rattle.mail_date.specs.Pieces.{number_of, year_of}

-- The day of a moment in UTC. The zone in which the moment was written plays no part.
abbrev pub utc_day : Moment → ℕ
utc_day moment = moment.secs / 86400

-- A day's number, if the day isn't before 1970.
abbrev pub from_1970 : ℤ → Option ℕ
from_1970 (pos n) = Some n
from_1970 (negsuc n) = None

-- The calendar has the day.
abbrev pub is_date : ℕ → ℕ → ℕ → Bool
is_date year month day =
    nat_le 1 month && nat_le month 12 && nat_le 1 day && nat_le day (days_in_month (pos year) month)

-- The number of a day, if the calendar has it and it isn't before 1970.
abbrev pub day_number : ℕ → ℕ → ℕ → Option ℕ
day_number year month day =
    if is_date year month day then from_1970 (days_from_civil (pos year) month day) else None

-- The number of the day with this year, month and day, if each is there.
abbrev pub day_of_parts : Option ℕ → Option ℕ → Option ℕ → Option ℕ
day_of_parts (Some year) (Some month) (Some day) = day_number year month day
day_of_parts _ _ _ = None

-- The number of the day that `YYYYMMDD` spells.
abbrev pub date_of : List ℕ → Option ℕ
date_of (a ∷ b ∷ c ∷ d ∷ e ∷ f ∷ g ∷ h ∷ []) =
    day_of_parts (year_of (a ∷ b ∷ c ∷ d ∷ [])) (number_of e f) (number_of g h)
date_of _ = None

-- Two days, if both are there and the first isn't after the last.
abbrev pub in_order : Option ℕ → Option ℕ → Option (ℕ × ℕ)
in_order (Some first) (Some last) = if nat_le first last then Some (first, last) else None
in_order _ _ = None

-- The text has two dots after its first 8 bytes, and 8 bytes after these.
abbrev pub has_dots : List ℕ → Bool
has_dots text = length text == 18 && slice_index text 8 == 46 && slice_index text 9 == 46

-- The first and the last day of the range that `YYYYMMDD..YYYYMMDD` spells.
abbrev pub range_of : List ℕ → Option (ℕ × ℕ)
range_of text =
    if has_dots text then in_order (date_of (take 8 text)) (date_of (drop 10 text)) else None
