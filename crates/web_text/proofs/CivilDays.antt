-- The days after the first of January 1970, and the dates that clocks show.
use Rattle.std.proofs.Common.{◌≡◌, ℕ, zero, suc, ◌+◌, ◌*◌, ◌/◌, ◌%◌, ◌<◌, ◌≤◌, inl, inr, Bool, true, false, cond, nat_lt, List, refl, ap, ◌∙◌, subst, arith, rules, ℤ, pos, ◌+ℤ◌, ◌-ℤ◌, ◌*ℤ◌, min}
use Rattle.std.proofs.lemmas.Bool.Decides.{nat_tests}
use Rattle.std.proofs.lemmas.Bool.{cases_order}
use Rattle.std.specs.Int.{IsInRange}
use Rattle.jiff_core.specs.Calendar.{days_in_month, days_from_civil, IsCivilDate}
use Rattle.jiff_core.proofs.SignedLemmas.{signed_arith}
use Rattle.jiff_core.proofs.CalendarLemmas.{day_count-epoch, days_from_civil-day_count, days_in_month_bounds, day_count-lt_year}
use Rattle.jiff_core.proofs.DateLemmas.{days_from_civil-day, days_from_civil-next_month, days_from_civil-next_year, days_from_civil-max}
use Rattle.mail_date.specs.Dates.{last_second, IsValid, second_of_day}
use Rattle.mail_date.specs.Laws.{PrintedDateIsOne}
use Rattle.mail_date.specs.Printed.{IsDateAt, utc, PrintsUtc, page_text, rfc3339_text}
use Rattle.web_text.specs.Days.{Day, day_of, day_at, time_of, date_at, moment_text, page_moment}

-- The calendar has the day, and it is so many days after the first of January 1970.
record IsNth (n : ℕ) (d : Day) : Type 0 where
  year : 1970 ≤ d.year
  month : IsInRange 1 12 d.month
  days : IsInRange 1 (days_in_month (pos d.year) d.month) d.day
  number : days_from_civil (pos d.year) d.month d.day ≡ pos n

-- The next day of the month.
in_month : (n y m d : ℕ) → IsNth n (day_of y m d) → d < days_in_month (pos y) m → IsNth (suc n) (day_of y m (d + 1))
in_month n y m d h more =
    let low = h.days.0 in
    let here : days_from_civil (pos y) m d ≡ pos n = h.number in
    record {
      year = h.year;
      month = h.month;
      days = (omega arith, omega arith);
      number = omega (arith, signed_arith, days_from_civil-day (pos y) m d (d + 1) low (omega arith));
    }

-- The first of the next month.
in_year : (n y m d : ℕ) → IsNth n (day_of y m d) → days_in_month (pos y) m ≤ d → m < 12 → IsNth (suc n) (day_of y (m + 1) 1)
in_year n y m d h last more =
    let low = h.month.0 in
    let high : d ≤ days_in_month (pos y) m = h.days.1 in
    let here : days_from_civil (pos y) m d ≡ pos n = h.number in
    let bounds = days_in_month_bounds (pos y) (m + 1) in
    record {
      year = h.year;
      month = (omega arith, omega arith);
      days = (omega arith, omega arith);
      number = omega (arith, signed_arith, days_from_civil-next_month (pos y) m d low (omega arith));
    }

-- The first of the next year.
of_year : (n y m d : ℕ) → IsNth n (day_of y m d) → days_in_month (pos y) m ≤ d → 12 ≤ m → IsNth (suc n) (day_of (y + 1) 1 1)
of_year n y m d h last end =
    let high = h.month.1 in
    let december : m ≡ 12 = omega arith in
    let most : d ≤ 31 = subst (λ (k : ℕ). d ≤ days_in_month (pos y) k) december h.days.1 in
    let least : 31 ≤ d = subst (λ (k : ℕ). days_in_month (pos y) k ≤ d) december last in
    let day : d ≡ 31 = omega arith in
    let here : days_from_civil (pos y) 12 31 ≡ pos n = subst (λ (k : ℕ). days_from_civil (pos y) k 31 ≡ pos n) december (subst (λ (k : ℕ). days_from_civil (pos y) m k ≡ pos n) day h.number) in
    record {
      year = (let low = h.year in omega arith);
      month = (omega arith, omega arith);
      days = (omega arith, omega arith);
      number = omega (arith, signed_arith, days_from_civil-next_year (pos y) (pos (y + 1)) (omega (arith, signed_arith)) (omega (arith, signed_arith)), here);
    }

next_by : (n y m d : ℕ) (more later : Bool) → nat_lt d (days_in_month (pos y) m) ≡ more → nat_lt m 12 ≡ later → IsNth n (day_of y m d)
    → IsNth (suc n) (cond more (day_of y m (d + 1)) (cond later (day_of y (m + 1) 1) (day_of (y + 1) 1 1)))
next_by n y m d true later e f h = in_month n y m d h (grind (arith, nat_tests, e))
next_by n y m d false true e f h = in_year n y m d h (grind (arith, nat_tests, e)) (grind (arith, nat_tests, f))
next_by n y m d false false e f h = of_year n y m d h (grind (arith, nat_tests, e)) (grind (arith, nat_tests, f))

first_day : IsNth 0 (day_of 1970 1 1)
first_day = record {
  year = omega arith;
  month = (omega arith, omega arith);
  days = (omega arith, omega arith);
  number = omega (arith, signed_arith, days_from_civil-day_count (pos 1970) 1 1, day_count-epoch);
}

nth_day : (n : ℕ) → IsNth n (day_at n)
unfolding day_at
nth_day zero = first_day
nth_day (suc n) = next_by n (day_at n).year (day_at n).month (day_at n).day (nat_lt (day_at n).day (days_in_month (pos (day_at n).year) (day_at n).month)) (nat_lt (day_at n).month 12) refl refl (nth_day n)

-- The days up to the last of the year 9999 have years with four digits.
too_late : (n y m d : ℕ) → IsNth n (day_of y m d) → n ≤ 2_932_896 → 10000 ≤ y → ⊥
too_late n y m d h most far =
    let first = h.days.0 in
    let last : IsCivilDate (pos 9999) 12 31 = (search rules, search rules, search rules) in
    let later = day_count-lt_year (pos 9999) 12 31 (pos y) m d last first (omega (arith, signed_arith)) in
    let here : days_from_civil (pos y) m d ≡ pos n = h.number in
    omega (arith, signed_arith, later, days_from_civil-day_count (pos 9999) 12 31, days_from_civil-day_count (pos y) m d, days_from_civil-max, here)

four_digits : (n y m d : ℕ) → IsNth n (day_of y m d) → n ≤ 2_932_896 → y ≤ 9999
four_digits n y m d h most =
    elim (cases_order y 10000) [
      | inl same ↦ absurd (too_late n y m d h most (omega arith))
      | inr (inl less) ↦ omega arith
      | inr (inr more) ↦ absurd (too_late n y m d h most (omega arith))
    ]

-- The seconds of a day, as a clock shows them.
clock_bounds : (r : ℕ) → r < 86400 → (r / 3600 ≤ 23) × (r / 60 % 60 ≤ 59) × (r % 60 ≤ 59)
clock_bounds r h = (omega arith, omega arith, omega arith)

plain_second : (s : ℕ) → s ≤ 59 → min s 59 ≡ s
plain_second s h = grind (arith)

clock_is : (r : ℕ) → r < 86400 → r / 3600 * 3600 + r / 60 % 60 * 60 + min (r % 60) 59 ≡ r
clock_is r h =
    let second = clock_bounds r h in
    let plain = plain_second (r % 60) second.2 in
    omega (arith, plain)

-- The days and the seconds of a moment are that moment.
whole : (secs n r : ℕ) (days : ℤ) (clock : ℕ) → secs ≡ n * 86400 + r → days ≡ pos n → clock ≡ r
    → ((days *ℤ pos 86400) +ℤ pos clock) -ℤ (pos 0 *ℤ pos 60) ≡ pos secs
whole secs n r days clock e f g = omega (arith, signed_arith, e, f, g)

valid_at : (n r : ℕ) (d : Day) → IsNth n d → n ≤ 2_932_896 → r < 86400 → IsValid (time_of d r)
valid_at n r d h most short =
    let clock = clock_bounds r short in
    let year : d.year ≤ 9999 = four_digits n d.year d.month d.day h most in
    record {
      day = record { year = (h.year, year); month = h.month; day = h.days };
      hour = clock.0;
      minute = clock.1;
      second = (let most_second = clock.2 in omega arith);
    }

at_day : (secs n r : ℕ) (d : Day) → IsNth n d → n ≤ 2_932_896 → r < 86400 → secs ≡ n * 86400 + r → IsDateAt (utc secs) (time_of d r)
at_day secs n r d h most short parts =
    let clock = clock_bounds r short in
    record {
      valid = valid_at n r d h most short;
      second = clock.2;
      secs = whole secs n r (days_from_civil (pos d.year) d.month d.day) (second_of_day (time_of d r)) parts h.number (clock_is r short);
      zone = refl;
    }

-- What a clock in UTC shows at a moment.
pub date_shown : (secs : ℕ) → secs ≤ last_second → IsDateAt (utc secs) (date_at secs)
unfolding date_at
date_shown secs h =
    let most : secs / 86400 ≤ 2_932_896 = omega arith in
    let short : secs % 86400 < 86400 = omega arith in
    let parts : secs ≡ secs / 86400 * 86400 + secs % 86400 = omega arith in
    at_day secs (secs / 86400) (secs % 86400) (day_at (secs / 86400)) (nth_day (secs / 86400)) most short parts

-- What is printed for a moment is what a feed has for it.
pub moment-printed : (secs : ℕ) (text : List ℕ) → PrintedDateIsOne → secs ≤ last_second → PrintsUtc rfc3339_text secs text → text ≡ moment_text secs
unfolding moment_text
moment-printed secs text one within printed =
    printed.2 ∙ ap rfc3339_text (one (utc secs) printed.0 (date_at secs) printed.1 (date_shown secs within))

-- What is printed for a moment is what a page has for it.
pub page_moment-printed : (secs : ℕ) (text : List ℕ) → PrintedDateIsOne → secs ≤ last_second → PrintsUtc page_text secs text → text ≡ page_moment secs
unfolding page_moment
page_moment-printed secs text one within printed =
    printed.2 ∙ ap page_text (one (utc secs) printed.0 (date_at secs) printed.1 (date_shown secs within))
