-- A Date field that is written for a moment consists of the parts of a date.
use Rattle.std.proofs.Common.{◌≡◌, ℕ, zero, suc, ◌+◌, ◌-◌, ◌*◌, ◌/◌, ◌%◌, ◌<◌, ◌≤◌, ◌&&◌, nat_le, nat_lt, Bool, true, false, cond, List, [], ◌∷◌, ◌++◌, length, Some, refl, sym, inl, arith, append_assoc, ℤ, pos, negsuc, unsigned_abs}
use Rattle.std.specs.Char.{is_ascii_digit}
use Rattle.std.specs.Int.{IsInRange}
use Rattle.std.specs.List.{list_all}
use Rattle.std.proofs.lemmas.Bool.Decides.{nat_tests}
use Rattle.jiff_core.proofs.SignedLemmas.{signed_arith}
use Rattle.jiff_core.proofs.CalendarLemmas.{days_in_month_bounds}
use Rattle.mail_date.specs.declared.moment.CivilDate.{CivilDate}
use Rattle.mail_date.specs.Words.{is_word_byte}
use Rattle.mail_date.specs.Pieces.{number_of, day_of, month_of, year_of, clock_of, zone_of, signed, IsZone}
use Rattle.mail_date.specs.Dates.{IsMomentOf, IsValid}
use Rattle.mail_date.specs.Parts.{IsGap, IsDateWord, DateParts}
use Rattle.mail_date.specs.Printed.{two_digits, four_digits, month_name, plain_day, clock_text, sign_of, zone_text, mail_text}
use Rattle.mail_date.specs.Laws.{WrittenDateIsSpelled}

word_by : (text : List ℕ) → nat_le 1 (length text) ≡ true → list_all is_word_byte text ≡ true → IsDateWord text
word_by text h k = record { some = grind (arith, nat_tests); bytes = k }

space : IsGap (32 ∷ [])
space = record { some = omega arith; white = refl }

printable_in_word : (a : ℕ) → 33 ≤ a → is_word_byte a ≡ true
printable_in_word a h = grind (arith, nat_tests)

digit_in_word : (n : ℕ) → is_word_byte (48 + n) ≡ true
digit_in_word n = printable_in_word (48 + n) (omega arith)

-- Two digits spell their number.
number_written : (n : ℕ) → n < 100 → number_of (48 + n / 10) (48 + n % 10) ≡ Some n
number_written n h =
    let tests : (is_ascii_digit (48 + n / 10) && is_ascii_digit (48 + n % 10)) ≡ true = grind (arith, nat_tests) in
    let value : (48 + n / 10 - 48) * 10 + (48 + n % 10 - 48) ≡ n = omega arith in
    rw (tests, value) refl

-- The day, which has one or two digits, is read.
day_short : (n : ℕ) → n < 10 → day_of ((48 + n) ∷ []) ≡ Some n
day_short n h =
    let test : is_ascii_digit (48 + n) ≡ true = grind (arith, nat_tests) in
    let value : 48 + n - 48 ≡ n = omega arith in
    let sum : 0 + n ≡ n = omega arith in
    rw (test, value, sum) refl

day_written : (n : ℕ) → n < 100 → (day_of (plain_day n) ≡ Some n) × IsDateWord (plain_day n)
day_written n h = go (nat_lt n 10) refl
  where
    go : (b : Bool) → nat_lt n 10 ≡ b → (day_of (cond b ((48 + n) ∷ []) (two_digits n)) ≡ Some n) × IsDateWord (cond b ((48 + n) ∷ []) (two_digits n))
    go true e = let small : n < 10 = grind (arith, nat_tests) in (day_short n small, word_by ((48 + n) ∷ []) refl (rw (digit_in_word n) refl))
    go false e = (number_written n h, word_by (two_digits n) refl (rw (digit_in_word (n / 10), digit_in_word (n % 10)) refl))

-- The name of a month is read, and is a word.
month_written : (month : ℕ) → IsInRange 1 12 month → (month_of (month_name month) ≡ Some month) × IsDateWord (month_name month)
month_written (suc zero) h = (refl, word_by (month_name 1) refl refl)
month_written (suc (suc zero)) h = (refl, word_by (month_name 2) refl refl)
month_written (suc (suc (suc zero))) h = (refl, word_by (month_name 3) refl refl)
month_written (suc (suc (suc (suc zero)))) h = (refl, word_by (month_name 4) refl refl)
month_written (suc (suc (suc (suc (suc zero))))) h = (refl, word_by (month_name 5) refl refl)
month_written (suc (suc (suc (suc (suc (suc zero)))))) h = (refl, word_by (month_name 6) refl refl)
month_written (suc (suc (suc (suc (suc (suc (suc zero))))))) h = (refl, word_by (month_name 7) refl refl)
month_written (suc (suc (suc (suc (suc (suc (suc (suc zero)))))))) h = (refl, word_by (month_name 8) refl refl)
month_written (suc (suc (suc (suc (suc (suc (suc (suc (suc zero))))))))) h = (refl, word_by (month_name 9) refl refl)
month_written (suc (suc (suc (suc (suc (suc (suc (suc (suc (suc zero)))))))))) h = (refl, word_by (month_name 10) refl refl)
month_written (suc (suc (suc (suc (suc (suc (suc (suc (suc (suc (suc zero))))))))))) h = (refl, word_by (month_name 11) refl refl)
month_written (suc (suc (suc (suc (suc (suc (suc (suc (suc (suc (suc (suc zero)))))))))))) h = (refl, word_by (month_name 12) refl refl)
month_written zero h = absurd (omega arith)
month_written (suc (suc (suc (suc (suc (suc (suc (suc (suc (suc (suc (suc (suc k))))))))))))) h = absurd (omega arith)

-- A year of four digits is read, and is a word.
year_written : (year : ℕ) → year ≤ 9999 → (year_of (four_digits year) ≡ Some year) × IsDateWord (four_digits year)
year_written year h =
    let value : year / 100 * 100 + year % 100 ≡ year = omega arith in (
      rw (number_written (year / 100) (omega arith), number_written (year % 100) (omega arith), value) refl,
      word_by (four_digits year) refl (rw (digit_in_word (year / 100 / 10), digit_in_word (year / 100 % 10), digit_in_word (year % 100 / 10), digit_in_word (year % 100 % 10)) refl),
    )

clock_written : (date : CivilDate) → IsValid date → (clock_of (clock_text date) ≡ Some (record { hour = date.hour; minute = date.minute; second = date.second })) × IsDateWord (clock_text date)
clock_written date h =
    let hour : date.hour ≤ 23 = h.hour in
    let minute : date.minute ≤ 59 = h.minute in
    let second : date.second ≤ 60 = h.second in (
      rw (number_written date.hour (omega arith), number_written date.minute (omega arith), number_written date.second (omega arith)) refl,
      word_by (clock_text date) refl (rw (digit_in_word (date.hour / 10), digit_in_word (date.hour % 10), digit_in_word (date.minute / 10), digit_in_word (date.minute % 10), digit_in_word (date.second / 10), digit_in_word (date.second % 10)) refl),
    )

-- The zone is read, and is a word.
sign_in_word : (zone : ℤ) → is_word_byte (sign_of zone) ≡ true
sign_in_word (pos n) = refl
sign_in_word (negsuc n) = refl

signed_written : (zone : ℤ) → signed (sign_of zone) (unsigned_abs zone) ≡ Some zone
signed_written (pos n) = refl
signed_written (negsuc n) = refl

zone_small : (zone : ℤ) → IsZone zone → unsigned_abs zone < 1440
zone_small (pos n) h = omega (arith, signed_arith)
zone_small (negsuc n) h = omega (arith, signed_arith)

zone_written : (zone : ℤ) → IsZone zone → (zone_of (zone_text zone) ≡ Some zone) × IsDateWord (zone_text zone)
zone_written zone h =
    let small = zone_small zone h in
    let n = unsigned_abs zone in
    let tests : (nat_lt (n / 60) 24 && nat_lt (n % 60) 60) ≡ true = grind (arith, nat_tests) in
    let value : n / 60 * 60 + n % 60 ≡ n = omega arith in (
      rw (number_written (n / 60) (omega arith), number_written (n % 60) (omega arith), tests, value) (signed_written zone),
      word_by (zone_text zone) refl (rw (sign_in_word zone, digit_in_word (n / 60 / 10), digit_in_word (n / 60 % 10), digit_in_word (n % 60 / 10), digit_in_word (n % 60 % 10)) refl),
    )

mail_text_grouped : (date : CivilDate) → mail_text date ≡ plain_day date.day ++ ((32 ∷ []) ++ (month_name date.month ++ ((32 ∷ []) ++ (four_digits date.year ++ ((32 ∷ []) ++ (clock_text date ++ ((32 ∷ []) ++ (zone_text date.zone ++ []))))))))
mail_text_grouped date = simp append_assoc

written_parts : (date : CivilDate) → IsValid date → IsZone date.zone → DateParts (mail_text date) date
written_parts date valid zone =
    let most = (days_in_month_bounds (pos date.year) date.month).0 in
    let day = day_written date.day (let last = valid.day.day.1 in omega arith) in
    let month = month_written date.month valid.day.month in
    let year = year_written date.year valid.day.year.1 in
    let clock = clock_written date valid in
    let offset = zone_written date.zone zone in
    record {
      opening = [];
      day = plain_day date.day;
      after_day = 32 ∷ [];
      month = month_name date.month;
      after_month = 32 ∷ [];
      year = four_digits date.year;
      after_year = 32 ∷ [];
      clock = clock_text date;
      after_clock = 32 ∷ [];
      zone = zone_text date.zone;
      ending = [];
      whole = mail_text_grouped date;
      opens = inl refl;
      is_day = day.1;
      gap_after_day = space;
      is_month = month.1;
      gap_after_month = space;
      is_year = year.1;
      gap_after_year = space;
      is_clock = clock.1;
      gap_after_clock = space;
      is_zone = offset.1;
      ends = inl refl;
      value = rw (day.0, month.0, year.0, clock.0, offset.0) refl;
    }

pub written_spelled : WrittenDateIsSpelled
written_spelled moment date shown bound zone =
    let same : date.zone ≡ moment.zone = shown.zone in
    let parts = written_parts date shown.valid (rw same zone) in
    let named : IsMomentOf date moment = record { valid = shown.valid; secs = sym shown.secs; bound = bound; zone = sym shown.zone } in
    (date, parts, named)
