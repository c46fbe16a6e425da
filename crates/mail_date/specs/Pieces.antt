-- The meaning of each word of a date (RFC 5322, 3.3). Of the obsolete forms (4.3), zones with names
-- are read, but only years of four digits and no military zones.
use Rattle.std.specs.Prelude.{ℕ, ◌+◌, ◌-◌, ◌*◌, ◌&&◌, ◌||◌, ◌==◌, nat_lt, List, [], ◌∷◌, map, slice_index_or, Option, Some, None, option_map, option_and_then, if◌then◌else◌, codes, ℤ, pos, negsuc, neg_ℤ, ◌≤ℤ◌}
use Rattle.std.specs.Char.{is_ascii_digit}
use Rattle.std.specs.List.{position}
use Rattle.std.specs.Str.{str_eq_ignore_ascii_case}
use Rattle.mail_date.specs.declared.pieces.Clock.{Clock}

-- The number that two digits spell.
abbrev pub number_of : ℕ → ℕ → Option ℕ
number_of high low =
    if is_ascii_digit high && is_ascii_digit low then Some ((high - 48) * 10 + (low - 48)) else None

-- A day of the month, of one or two digits.
abbrev pub day_of : List ℕ → Option ℕ
day_of (low ∷ []) = number_of 48 low
day_of (high ∷ low ∷ []) = number_of high low
day_of _ = None

-- The names of the months.
abbrev pub month_names : List (List ℕ)
month_names =
    codes "Jan" ∷ codes "Feb" ∷ codes "Mar" ∷ codes "Apr" ∷ codes "May" ∷ codes "Jun"
    ∷ codes "Jul" ∷ codes "Aug" ∷ codes "Sep" ∷ codes "Oct" ∷ codes "Nov" ∷ codes "Dec" ∷ []

-- The number of a month, from 1, by its name in any case.
abbrev pub month_of : List ℕ → Option ℕ
month_of word = option_map (λ index.
    index + 1) (position (λ name. str_eq_ignore_ascii_case word name) month_names)

-- The year of two pairs of digits.
abbrev pub joined_year : ℕ → ℕ → ℕ
joined_year century year = century * 100 + year

-- A year of four digits.
abbrev pub year_of : List ℕ → Option ℕ
year_of (a ∷ b ∷ c ∷ d ∷ []) =
    option_and_then (λ century. option_map (joined_year century) (number_of c d)) (number_of a b)
year_of _ = None

-- The time of day, if hour, minute and second are each there.
abbrev pub clock_at : Option ℕ → Option ℕ → Option ℕ → Option Clock
clock_at (Some hour) (Some minute) (Some second) =
    Some (record { hour = hour; minute = minute; second = second })
clock_at _ _ _ = None

-- The time of day, `hh:mm` or `hh:mm:ss`.
abbrev pub clock_of : List ℕ → Option Clock
clock_of (a ∷ b ∷ p ∷ c ∷ d ∷ []) =
    if p == 58 then clock_at (number_of a b) (number_of c d) (Some 0) else None
clock_of (a ∷ b ∷ p ∷ c ∷ d ∷ q ∷ e ∷ f ∷ []) =
    if p == 58 && q == 58 then clock_at (number_of a b) (number_of c d) (number_of e f) else None
clock_of _ = None

-- The minutes east of UTC by the sign of a zone: positive after a plus, negative after a minus.
abbrev pub signed : ℕ → ℕ → Option ℤ
signed sign minutes =
    if sign == 43 then Some (pos minutes)
    else (if sign == 45 then Some (neg_ℤ (pos minutes)) else None)

-- The minutes east of UTC by a sign, hours up to 23 and minutes up to 59.
abbrev pub offset_at : ℕ → Option ℕ → Option ℕ → Option ℤ
offset_at sign (Some hour) (Some minute) =
    if nat_lt hour 24 && nat_lt minute 60 then signed sign (hour * 60 + minute) else None
offset_at _ _ _ = None

-- The names of the zones of North America.
abbrev pub zone_names : List (List ℕ)
zone_names =
    codes "EST" ∷ codes "EDT" ∷ codes "CST" ∷ codes "CDT" ∷ codes "MST" ∷ codes "MDT" ∷ codes "PST"
    ∷ codes "PDT" ∷ []

-- The minutes east of UTC of these zones. They are 5, 4, 6, 5, 7, 6, 8 and 7 hours west of it.
abbrev pub zone_minutes : List ℤ
zone_minutes = map (λ hours. neg_ℤ (pos (hours * 60))) (5 ∷ 4 ∷ 6 ∷ 5 ∷ 7 ∷ 6 ∷ 8 ∷ 7 ∷ [])

-- The minutes of the zone at an index of that list.
abbrev pub zone_at : ℕ → ℤ
zone_at index = slice_index_or zone_minutes index (pos 0)

-- The minutes of a zone's name, in any case. UTC has two names, and each zone of North America one.
abbrev pub named_zone : List ℕ → Option ℤ
named_zone word =
    if str_eq_ignore_ascii_case word (codes "GMT") || str_eq_ignore_ascii_case word (codes "UT")
    then Some (pos 0)
    else option_map zone_at (position (λ name. str_eq_ignore_ascii_case word name) zone_names)

-- The minutes east of UTC of `+hhmm`, `-hhmm` or a name.
abbrev pub zone_of : List ℕ → Option ℤ
zone_of (sign ∷ a ∷ b ∷ c ∷ d ∷ []) = offset_at sign (number_of a b) (number_of c d)
zone_of word = named_zone word

-- A zone is less than a day from UTC.
abbrev pub IsZone : ℤ → Type 0
IsZone zone = (negsuc 1438 ≤ℤ zone) × (zone ≤ℤ pos 1439)
