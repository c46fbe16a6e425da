-- Days from 1970 on.
use Rattle.std.proofs.Common.{arith, pos, ◌≤ℤ◌}
use Rattle.std.proofs.lemmas.Int.{by_lt_z}
use Rattle.jiff_core.specs.declared.civil.date.Date.{Date}
use Rattle.jiff_core.specs.Date.{epoch_day}
use Rattle.jiff_core.proofs.SignedLemmas.{signed_arith}
use Rattle.jiff_core.proofs.CalendarLemmas.{day_count-epoch, days_from_civil-day_count, day_count-lt_year}
use Rattle.jiff_core.proofs.DateLemmas.{civil}

-- A day whose number isn't negative is in a year from 1970 on.
pub year_from_1970 : (day : Date) → pos 0 ≤ℤ epoch_day day → pos 1970 ≤ℤ day.year
year_from_1970 day h =
    by_lt_z day.year (pos 1970) (λ before. absurd (omega (arith, signed_arith, days_from_civil-day_count day.year day.month day.day, day_count-epoch, day_count-lt_year day.year day.month day.day (pos 1970) 1 1 (civil day) (omega arith) before)))
    (λ later. later)
