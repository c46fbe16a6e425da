-- Dates of commands (RFC 3501, section 9, date and date-time).
use Rattle.std.specs.Prelude.{ℕ, Bool, true, false, List, codes, Option, Some, None, if◌then◌else◌}
use Rattle.imap_words.specs.Kinds.{is_digit}
use Rattle.imap_words.specs.Numbers.{day_of, pair_at, four_at, padded_pair_at}
use Rattle.imap_words.specs.Reading.{◌>>=◌, with_rest, byte_at, run_at, word_of, behind_word}
use Rattle.imap_words.specs.Words.{is_keyword}
use Rattle.imap_syntax.specs.declared.keys.Date.{Date}
use Rattle.imap_syntax.specs.declared.dates.DateTime.{DateTime}
use Rattle.imap_syntax.specs.declared.dates.Time.{Time}
use Rattle.imap_syntax.specs.declared.dates.Zone.{Zone}

-- The month that a word names (date-month).
abbrev pub month_of : List ℕ → Option ℕ
month_of word =
    if is_keyword (codes "JAN") word then Some 1
    else if is_keyword (codes "FEB") word then Some 2
    else if is_keyword (codes "MAR") word then Some 3
    else if is_keyword (codes "APR") word then Some 4
    else if is_keyword (codes "MAY") word then Some 5
    else if is_keyword (codes "JUN") word then Some 6
    else if is_keyword (codes "JUL") word then Some 7
    else if is_keyword (codes "AUG") word then Some 8
    else if is_keyword (codes "SEP") word then Some 9
    else if is_keyword (codes "OCT") word then Some 10
    else if is_keyword (codes "NOV") word then Some 11
    else if is_keyword (codes "DEC") word then Some 12
    else None

-- The month at the front.
unfoldable pub month_at : List ℕ → Option (ℕ × List ℕ)
month_at octets = with_rest (behind_word octets) (month_of (word_of octets))

-- The day of a month and a year that follow it, each after a dash.
unfoldable pub date_behind : ℕ → List ℕ → Option (Date × List ℕ)
date_behind day octets = do
  next ← byte_at 45 octets
  month ← month_at next
  last ← byte_at 45 month.1
  year ← four_at last
  Some (record { year = year.0; month = month.0; day = day }, year.1)

-- A day of one digit or two, a month and a year (date-text).
unfoldable pub date_text_at : List ℕ → Option (Date × List ℕ)
date_text_at octets = do
  word ← run_at is_digit octets
  day ← day_of word.0
  date_behind day word.1

-- A date with a quote after it.
abbrev pub quoted_date_at : List ℕ → Option (Date × List ℕ)
quoted_date_at octets = do
  date ← date_text_at octets
  rest ← byte_at 34 date.1
  Some (date.0, rest)

-- A date in quotes if a quote comes first, and bare otherwise.
abbrev pub date_by : List ℕ → Option (List ℕ) → Option (Date × List ℕ)
date_by octets None = date_text_at octets
date_by octets (Some inside) = quoted_date_at inside

-- A date, in quotes or bare (date).
unfoldable pub date_at : List ℕ → Option (Date × List ℕ)
date_at octets = date_by octets (byte_at 34 octets)

-- The same after a space.
unfoldable pub date_argument_at : List ℕ → Option (Date × List ℕ)
date_argument_at octets = do
  rest ← byte_at 32 octets
  date_at rest

-- A time of the day (time).
unfoldable pub time_at : List ℕ → Option (Time × List ℕ)
time_at octets = do
  hour ← pair_at octets
  next ← byte_at 58 hour.1
  minute ← pair_at next
  last ← byte_at 58 minute.1
  second ← pair_at last
  Some (record { hour = hour.0; minute = minute.0; second = second.0 }, second.1)

-- The four digits of a zone whose sign is told.
abbrev pub zone_digits_at : Bool → List ℕ → Option (Zone × List ℕ)
zone_digits_at west octets = do
  digits ← four_at octets
  Some (record { is_west = west; digits = digits.0 }, digits.1)

-- A zone after its sign `-`, if that comes first, and with the sign `+` otherwise.
abbrev pub zone_by : List ℕ → Option (List ℕ) → Option (Zone × List ℕ)
zone_by octets None = do
  rest ← byte_at 43 octets
  zone_digits_at false rest
zone_by octets (Some rest) = zone_digits_at true rest

-- A zone: a sign and four digits (zone).
unfoldable pub zone_at : List ℕ → Option (Zone × List ℕ)
zone_at octets = zone_by octets (byte_at 45 octets)

-- A day of two digits, or of a space and a digit, and its month and year (date-day-fixed).
unfoldable pub fixed_date_at : List ℕ → Option (Date × List ℕ)
fixed_date_at octets = do
  day ← padded_pair_at octets
  date_behind day.0 day.1

-- A time and a zone after a date, with spaces before each, and a quote after them.
unfoldable pub time_behind : Date → List ℕ → Option (DateTime × List ℕ)
time_behind date octets = do
  next ← byte_at 32 octets
  time ← time_at next
  last ← byte_at 32 time.1
  zone ← zone_at last
  rest ← byte_at 34 zone.1
  Some (record { date = date; time = time.0; zone = zone.0 }, rest)

-- A date, a time and a zone in quotes (date-time).
unfoldable pub date_time_at : List ℕ → Option (DateTime × List ℕ)
date_time_at octets = do
  inside ← byte_at 34 octets
  date ← fixed_date_at inside
  time_behind date.0 date.1
