-- The bytes of a moment in a page and in a feed.
use Rattle.std.proofs.Common.{ℕ, zero, suc, ◌+◌, ◌/◌, ◌%◌, ◌≤◌, List, [], ◌∷◌, ◌++◌, codes, arith, pos}
use Rattle.std.specs.List.{All}
use Rattle.std.proofs.lemmas.List.Elements.{All-append}
use Rattle.jiff_core.specs.Calendar.{days_in_month}
use Rattle.jiff_core.proofs.CalendarLemmas.{days_in_month_bounds}
use Rattle.mail_date.specs.declared.moment.CivilDate.{CivilDate}
use Rattle.mail_date.specs.Dates.{last_second, IsValid}
use Rattle.mail_date.specs.Printed.{two_digits, four_digits, day_text, minute_text, clock_text, page_text, rfc3339_text}
use Rattle.web_text.specs.Days.{date_at, moment_text, page_moment}
use Rattle.web_text.proofs.CivilDays.{date_shown}

module _ (P : ℕ → Type 0) (digit : (n : ℕ) → n ≤ 9 → P (48 + n)) (hyphen : P 45) (colon : P 58) where
  all-nil : All P []
  all-nil k d h = absurd (omega arith)

  all-cons : (x : ℕ) (xs : List ℕ) → P x → All P xs → All P (x ∷ xs)
  all-cons x xs p ps zero d h = p
  all-cons x xs p ps (suc k) d h = ps k d (omega arith)

  one : (x : ℕ) → P x → All P (x ∷ [])
  one x p = all-cons x [] p all-nil

  two : (n : ℕ) → n ≤ 99 → All P (two_digits n)
  two n h = all-cons (48 + n / 10) ((48 + n % 10) ∷ []) (digit (n / 10) (omega arith)) (one (48 + n % 10) (digit (n % 10) (omega arith)))

  join : (a b : List ℕ) → All P a → All P b → All P (a ++ b)
  join a b h k = All-append P a b h k

  day_bytes : (d : CivilDate) → IsValid d → All P (day_text d)
  day_bytes d v =
      let year : d.year ≤ 9999 = v.day.year.1 in
      let month : d.month ≤ 12 = v.day.month.1 in
      let last : d.day ≤ days_in_month (pos d.year) d.month = v.day.day.1 in
      let most : days_in_month (pos d.year) d.month ≤ 31 = (days_in_month_bounds (pos d.year) d.month).0 in
      let day : d.day ≤ 31 = omega (arith, last, most) in
      let years : All P (four_digits d.year) = join (two_digits (d.year / 100)) (two_digits (d.year % 100)) (two (d.year / 100) (omega arith)) (two (d.year % 100) (omega arith)) in
      let months : All P ((four_digits d.year ++ codes "-") ++ two_digits d.month) = join (four_digits d.year ++ codes "-") (two_digits d.month) (join (four_digits d.year) (codes "-") years (one 45 hyphen)) (two d.month (omega arith)) in
      join (((four_digits d.year ++ codes "-") ++ two_digits d.month) ++ codes "-") (two_digits d.day) (join ((four_digits d.year ++ codes "-") ++ two_digits d.month) (codes "-") months (one 45 hyphen)) (two d.day (omega arith))

  minute_bytes : (d : CivilDate) → IsValid d → All P (minute_text d)
  minute_bytes d v =
      let hour : d.hour ≤ 23 = v.hour in
      let minute : d.minute ≤ 59 = v.minute in
      join (two_digits d.hour ++ codes ":") (two_digits d.minute) (join (two_digits d.hour) (codes ":") (two d.hour (omega arith)) (one 58 colon)) (two d.minute (omega arith))

  clock_bytes : (d : CivilDate) → IsValid d → All P (clock_text d)
  clock_bytes d v =
      let second : d.second ≤ 60 = v.second in
      join (minute_text d ++ codes ":") (two_digits d.second) (join (minute_text d) (codes ":") (minute_bytes d v) (one 58 colon)) (two d.second (omega arith))

  page_bytes : P 32 → (d : CivilDate) → IsValid d → All P (page_text d)
  page_bytes space d v = join (day_text d ++ codes " ") (minute_text d) (join (day_text d) (codes " ") (day_bytes d v) (one 32 space)) (minute_bytes d v)

  feed_bytes : P 84 → P 90 → (d : CivilDate) → IsValid d → All P (rfc3339_text d)
  feed_bytes crash_between after d v =
      join ((day_text d ++ codes "T") ++ clock_text d) (codes "Z")
      (join (day_text d ++ codes "T") (clock_text d) (join (day_text d) (codes "T") (day_bytes d v) (one 84 crash_between)) (clock_bytes d v))
      (one 90 after)

  -- Digits, hyphens, colons and spaces are all that a moment in a page has.
  pub page_moment_bytes : P 32 → (secs : ℕ) → secs ≤ last_second → All P (page_moment secs)
  unfolding page_moment
  page_moment_bytes space secs h = page_bytes space (date_at secs) (date_shown secs h).valid

  -- One in a feed has the letters `T` and `Z` in place of spaces.
  pub moment_bytes : P 84 → P 90 → (secs : ℕ) → secs ≤ last_second → All P (moment_text secs)
  unfolding moment_text
  moment_bytes crash_between after secs h = feed_bytes crash_between after (date_at secs) (date_shown secs h).valid
