-- The days after the first of January 1970 in the calendar of heads.
use Rattle.std.proofs.Common.{◌≡◌, ℕ, zero, suc, ◌+◌, ◌-◌, ◌*◌, ◌/◌, ◌%◌, ◌<◌, ◌≤◌, inl, inr, Bool, true, false, cond, nat_lt, refl, sym, ap, ◌∙◌, subst, arith}
use Rattle.std.proofs.lemmas.Bool.Decides.{nat_tests}
use Rattle.std.proofs.lemmas.Bool.{cases_order}
use Rattle.std.specs.Int.{IsInRange}
use Rattle.arch_base.specs.Moments.{IsMoment}
use Rattle.httpdate.specs.declared.date.HttpDate.{HttpDate}
use Rattle.httpdate.specs.Calendar.{days_in_year, days_in_month, days_of_years, days_of_months, days_from_civil, weekday, IsCivilDate}
use Rattle.httpdate.specs.Date.{date_text, unix_secs}
use Rattle.httpdate.specs.Text.{imf_fixdate}
use Rattle.httpdate.proofs.CalendarLemmas.{days_of_years_closed, days_of_months_closed, days_of_months_more, days_of_months_all, days_from_civil_year}
use Rattle.httpdate.proofs.Theorems.{unix_secs_injective}
use Rattle.web_text.specs.Days.{Day, day_of, day_at}
use Rattle.http_heads.specs.Dates.{clock_at, reply_date}

-- The calendar has the day, and it is so many days after the first of January 1970.
record IsNth (n : ℕ) (d : Day) : Type 0 where
  year : 1970 ≤ d.year
  month : IsInRange 1 12 d.month
  days : IsInRange 1 (days_in_month d.year d.month) d.day
  number : days_from_civil d.year d.month d.day ≡ n

-- The next day of the month.
in_month : (n y m d : ℕ) → IsNth n (day_of y m d) → d < days_in_month y m → IsNth (suc n) (day_of y m (d + 1))
in_month n y m d h more =
    let low = h.days.0 in
    let here : days_from_civil y m d ≡ n = h.number in
    record { year = h.year; month = h.month; days = (omega arith, omega arith); number = omega (arith, here) }

first_day : (y m : ℕ) → 1 ≤ days_in_month y m
first_day y m = grind arith

-- The first of the next month.
in_year : (n y m d : ℕ) → IsNth n (day_of y m d) → days_in_month y m ≤ d → m < 12 → IsNth (suc n) (day_of y (m + 1) 1)
in_year n y m d h last more =
    let low = h.month.0 in
    let first = h.days.0 in
    let high : d ≤ days_in_month y m = h.days.1 in
    let here : days_of_years (y - 1970) + days_of_months y (m - 1) + (d - 1) ≡ n = h.number in
    let back : m + 1 - 1 ≡ m = omega arith in
    let next : days_of_years (y - 1970) + days_of_months y m + 0 ≡ suc n = omega (arith, here, days_of_months_more y m low) in
    record {
      year = h.year;
      month = (omega arith, omega arith);
      days = (omega arith, first_day y (m + 1));
      number = ap (λ (k : ℕ). days_of_years (y - 1970) + days_of_months y k + 0) back ∙ next;
    }

year_more : (n : ℕ) → days_of_years (suc n) ≡ days_of_years n + days_in_year (1970 + n)
unfolding days_of_years
year_more n = refl

no_month : (y : ℕ) → days_of_months y 0 ≡ 0
unfolding days_of_months
no_month y = refl

-- The first of the next year.
of_year : (n y m d : ℕ) → IsNth n (day_of y m d) → days_in_month y m ≤ d → 12 ≤ m → IsNth (suc n) (day_of (y + 1) 1 1)
of_year n y m d h last end =
    let high = h.month.1 in
    let december : m ≡ 12 = omega arith in
    let most : d ≤ days_in_month y 12 = subst (λ (k : ℕ). d ≤ days_in_month y k) december h.days.1 in
    let least : days_in_month y 12 ≤ d = subst (λ (k : ℕ). days_in_month y k ≤ d) december last in
    let first = h.days.0 in
    let here : days_of_years (y - 1970) + days_of_months y 11 + (d - 1) ≡ n = subst (λ (k : ℕ). days_of_years (y - 1970) + days_of_months y (k - 1) + (d - 1) ≡ n) december h.number in
    let low = h.year in
    let same : 1970 + (y - 1970) ≡ y = omega arith in
    let back : y + 1 - 1970 ≡ suc (y - 1970) = omega arith in
    let more : days_of_years (suc (y - 1970)) ≡ days_of_years (y - 1970) + days_in_year y = year_more (y - 1970) ∙ ap (λ (k : ℕ). days_of_years (y - 1970) + days_in_year k) same in
    let next : days_of_years (suc (y - 1970)) + 0 + 0 ≡ suc n = omega (arith, here, more, days_of_months_all y, days_of_months_more y 12 (omega arith)) in
    record {
      year = omega arith;
      month = (omega arith, omega arith);
      days = (omega arith, first_day (y + 1) 1);
      number = ap (λ (k : ℕ). days_of_years (y + 1 - 1970) + k + 0) (no_month (y + 1)) ∙ ap (λ (k : ℕ). days_of_years k + 0 + 0) back ∙ next;
    }

next_by : (n y m d : ℕ) (more later : Bool) → nat_lt d (days_in_month y m) ≡ more → nat_lt m 12 ≡ later → IsNth n (day_of y m d)
    → IsNth (suc n) (cond more (day_of y m (d + 1)) (cond later (day_of y (m + 1) 1) (day_of (y + 1) 1 1)))
next_by n y m d true later e f h = in_month n y m d h (grind (arith, nat_tests, e))
next_by n y m d false true e f h = in_year n y m d h (grind (arith, nat_tests, e)) (grind (arith, nat_tests, f))
next_by n y m d false false e f h = of_year n y m d h (grind (arith, nat_tests, e)) (grind (arith, nat_tests, f))

start : IsNth 0 (day_of 1970 1 1)
unfolding days_of_years days_of_months
start = record { year = omega arith; month = (omega arith, omega arith); days = (omega arith, omega arith); number = refl }

nth_day : (n : ℕ) → IsNth n (day_at n)
unfolding day_at
nth_day zero = start
nth_day (suc n) = next_by n (day_at n).year (day_at n).month (day_at n).day (nat_lt (day_at n).day (days_in_month (day_at n).year (day_at n).month)) (nat_lt (day_at n).month 12) refl refl (nth_day n)

-- The days up to the last of the year 9999 have years with four digits.
last_day : days_from_civil 9999 12 31 ≡ 2_932_896
last_day = omega (arith, days_of_years_closed 8029, days_of_months_closed 9999 11 (omega arith))

four_digits : (n y m d : ℕ) → IsNth n (day_of y m d) → n ≤ 2_932_896 → y ≤ 9999
four_digits n y m d h most =
    let here : days_from_civil y m d ≡ n = h.number in
    let last : IsCivilDate 9999 12 31 = ((omega arith, omega arith), (omega arith, omega arith), (omega arith, omega arith)) in
    let late : 9999 < y → ⊥ = λ far. omega (arith, here, last_day, days_from_civil_year 9999 12 31 y m d last far) in
    elim (cases_order y 9999) [
      | inl same ↦ omega arith
      | inr (inl less) ↦ omega arith
      | inr (inr more) ↦ absurd (late (omega arith))
    ]

clock_bounds : (r : ℕ) → r < 86400 → (r / 3600 < 24) × (r / 60 % 60 < 60) × (r % 60 < 60)
clock_bounds r h = (omega arith, omega arith, omega arith)

whole : (days n r secs : ℕ) → days ≡ n → secs ≡ n * 86400 + r → r < 86400 → days * 86400 + r / 3600 * 3600 + r / 60 % 60 * 60 + r % 60 ≡ secs
whole days n r secs e f h = omega (arith, e, f)

printed_at : (date : HttpDate) (secs n r : ℕ) (d : Day) → IsNth n d → n ≤ 2_932_896 → r < 86400 → secs ≡ n * 86400 + r → unix_secs date ≡ secs → date.parts ≡ clock_at (weekday n) d r
printed_at date secs n r d h most short parts e =
    let civil : IsCivilDate d.year d.month d.day = ((h.year, four_digits n d.year d.month d.day h most), h.month, h.days) in
    unix_secs_injective date (record { parts = clock_at (weekday n) d r; civil = civil; time = clock_bounds r short; right_day = ap weekday (sym h.number) })
    (e ∙ sym (whole (days_from_civil d.year d.month d.day) n r secs h.number parts short))

-- The date of a moment is printed so.
pub date-printed : (date : HttpDate) (secs : ℕ) → IsMoment secs → unix_secs date ≡ secs → date_text date ≡ reply_date secs
unfolding reply_date
date-printed date secs moment e =
    let most : secs / 86400 ≤ 2_932_896 = omega arith in
    let short : secs % 86400 < 86400 = omega arith in
    let parts : secs ≡ secs / 86400 * 86400 + secs % 86400 = omega arith in
    ap imf_fixdate (printed_at date secs (secs / 86400) (secs % 86400) (day_at (secs / 86400)) (nth_day (secs / 86400)) most short parts e)
