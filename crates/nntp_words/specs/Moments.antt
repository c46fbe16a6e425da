-- Dates and times of commands (RFC 3977, section 7.3.2).
use Rattle.std.specs.Prelude.{ℕ, ◌+◌, ◌-◌, ◌*◌, ◌/◌, min, Bool, ◌&&◌, nat_le, List, [], ◌∷◌, Option, Some, None, if◌then◌else◌, ℤ, pos, ◌+ℤ◌, ◌*ℤ◌}
use Rattle.jiff_core.specs.Calendar.{days_in_month, days_from_civil}
use Rattle.mail_date.specs.Pieces.{number_of}

-- The number that four digits spell, by their first and last two.
abbrev pub four_digits : Option ℕ → Option ℕ → Option ℕ
four_digits (Some high) (Some low) = Some (high * 100 + low)
four_digits _ _ = None

-- The year, or the one a century before if it is after this year.
abbrev pub not_after : ℕ → ℕ → ℕ
not_after year this_year = if nat_le year this_year then year else year - 100

-- The year with these last two digits, of the century of this year or of the one before.
abbrev pub full_year : Option ℕ → ℕ → Option ℕ
full_year None this_year = None
full_year (Some digits) this_year = Some (not_after (this_year / 100 * 100 + digits) this_year)

-- The calendar has the day.
abbrev pub is_day : ℕ → ℕ → ℕ → Bool
is_day year month day =
    nat_le 1 month && nat_le month 12 && nat_le 1 day && nat_le day (days_in_month (pos year) month)

-- The day of these numbers, counted from the first of January 1970.
abbrev pub day_in : Option ℕ → Option ℕ → Option ℕ → Option ℤ
day_in (Some year) (Some month) (Some day) =
    if is_day year month day then Some (days_from_civil (pos year) month day) else None
day_in _ _ _ = None

-- The day that a date of six or eight digits spells.
unfoldable pub day_of : List ℕ → ℕ → Option ℤ
day_of (a ∷ b ∷ c ∷ d ∷ e ∷ f ∷ []) this_year =
    day_in (full_year (number_of a b) this_year) (number_of c d) (number_of e f)
day_of (a ∷ b ∷ c ∷ d ∷ e ∷ f ∷ g ∷ h ∷ []) this_year =
    day_in (four_digits (number_of a b) (number_of c d)) (number_of e f) (number_of g h)
day_of _ this_year = None

-- The second of the day of these numbers. Second 60 counts as second 59.
abbrev pub second_in : Option ℕ → Option ℕ → Option ℕ → Option ℕ
second_in (Some hour) (Some minute) (Some second) =
    if nat_le hour 23 && nat_le minute 59 && nat_le second 60
    then Some (hour * 3600 + minute * 60 + min second 59) else None
second_in _ _ _ = None

-- The second of the day that a time of six digits spells.
unfoldable pub second_of : List ℕ → Option ℕ
second_of (a ∷ b ∷ c ∷ d ∷ e ∷ f ∷ []) = second_in (number_of a b) (number_of c d) (number_of e f)
second_of _ = None

-- The moment of a day and a second of it.
abbrev pub moment_in : Option ℤ → Option ℕ → Option ℤ
moment_in (Some day) (Some second) = Some ((day *ℤ pos 86400) +ℤ pos second)
moment_in _ _ = None

-- The moment that a date and a time spell, in seconds since 1970 UTC.
abbrev pub moment_of : List ℕ → List ℕ → ℕ → Option ℤ
moment_of date time this_year = moment_in (day_of date this_year) (second_of time)
