-- The digits of a printed moment.
use Rattle.std.proofs.Common.{◌≡◌, ◌≤◌, ◌+◌, ◌*◌, ◌/◌, ◌%◌, ◌-◌, ℕ, min, List, [], ◌∷◌, get_or, refl, arith}
use Rattle.mail_date.specs.Dates.{last_second}
use Rattle.mail_date.specs.Laws.{PrintedDateIsOne}
use Rattle.mail_date.specs.Printed.{PrintsUtc, rfc3339_text}
use Rattle.web_text.specs.Days.{date_at, moment_text}
use Rattle.web_text.proofs.CivilDays.{date_shown, moment-printed}
use Rattle.nntp_reader.specs.Dates.{year_at, date_words}

-- A year of four digits, read digit by digit.
year-read : (year : ℕ) → year ≤ 9999
    → (min (48 + year / 100 / 10 - 48) 9 * 10 + min (48 + year / 100 % 10 - 48) 9) * 100 + (min (48 + year % 100 / 10 - 48) 9 * 10 + min (48 + year % 100 % 10 - 48) 9) ≡ year
year-read year most = omega (arith, most)

-- The year of a printed moment.
pub year-printed : (moment : ℕ) (text : List ℕ) → PrintedDateIsOne → moment ≤ last_second → PrintsUtc rfc3339_text moment text
    → (min (get_or text 0 0 - 48) 9 * 10 + min (get_or text 1 0 - 48) 9) * 100 + (min (get_or text 2 0 - 48) 9 * 10 + min (get_or text 3 0 - 48) 9) ≡ year_at moment
unfolding moment_text year_at
year-printed moment text one within printed =
    rw (moment-printed moment text one within printed) (year-read (date_at moment).year (date_shown moment within).valid.day.year.1)

-- What DATE says, by the printed moment.
pub words-printed : (moment : ℕ) (text : List ℕ) → PrintedDateIsOne → moment ≤ last_second → PrintsUtc rfc3339_text moment text
    → 49 ∷ 49 ∷ 49 ∷ 32 ∷ get_or text 0 0 ∷ get_or text 1 0 ∷ get_or text 2 0 ∷ get_or text 3 0 ∷ get_or text 5 0 ∷ get_or text 6 0 ∷ get_or text 8 0 ∷ get_or text 9 0 ∷ get_or text 11 0 ∷ get_or text 12 0 ∷ get_or text 14 0 ∷ get_or text 15 0 ∷ get_or text 17 0 ∷ get_or text 18 0 ∷ 13 ∷ 10 ∷ [] ≡ date_words moment
unfolding moment_text date_words
words-printed moment text one within printed = rw (moment-printed moment text one within printed) refl
