-- The zone of a Date is less than a day away from UTC, and its moment is before the year 10000.
use Rattle.std.proofs.Common.{◌≡◌, ℕ, zero, suc, ◌+◌, ◌*◌, ◌≤◌, ◌==◌, ◌&&◌, nat_lt, nat_le, Bool, true, false, cond, List, [], ◌∷◌, Option, Some, None, IfSome, option_map, option_and_then, refl, arith, ℤ, pos, negsuc, neg_ℤ}
use Rattle.std.proofs.lemmas.Int.{ints}
use Rattle.std.proofs.lemmas.Bool.Decides.{nat_tests}
use Rattle.std.specs.List.{position}
use Rattle.std.specs.Str.{str_eq_ignore_ascii_case}
use Rattle.git_objects.specs.Commits.{IsCommitZone}
use Rattle.mail_date.specs.declared.moment.Moment.{Moment}
use Rattle.mail_date.specs.declared.moment.CivilDate.{CivilDate}
use Rattle.mail_date.specs.declared.pieces.Clock.{Clock}
use Rattle.mail_date.specs.Words.{words_of, without_day}
use Rattle.mail_date.specs.Pieces.{number_of, day_of, month_of, year_of, clock_of, zone_of, signed, offset_at, zone_at, named_zone, zone_names}
use Rattle.mail_date.specs.Dates.{joined, last_second, seconds_of}
use Rattle.mail_date.specs.Reading.{is_comment, date_of, date_of_words, is_valid_day, is_valid_time, moment_from, moment_at, moment_in}
use Rattle.mail_reader.specs.Fields.{FieldText, fields_of, first_named}
use Rattle.mail_commits.specs.Facts.{date_fact}
use Rattle.std.specs.Prelude.{codes}

-- Minutes below a day, east of UTC.
east : (minutes : ℕ) → minutes ≤ 1439 → IsCommitZone (pos minutes)
east minutes small = record { low = omega (arith, ints); high = omega (arith, ints) }

-- Minutes below a day, west of UTC.
west : (minutes : ℕ) → minutes ≤ 1439 → IsCommitZone (neg_ℤ (pos minutes))
west zero small = east 0 small
west (suc minutes) small = record { low = omega (arith, ints); high = omega (arith, ints) }

-- By a sign.
by_sign : (plus minus : Bool) (minutes : ℕ) → minutes ≤ 1439 → IfSome (cond plus (Some (pos minutes)) (cond minus (Some (neg_ℤ (pos minutes))) None)) IsCommitZone
by_sign true minus minutes small = east minutes small
by_sign false true minutes small = west minutes small
by_sign false false minutes small = tt

-- By hours and minutes.
by_clock : (b : Bool) (sign hour minute : ℕ) → (nat_lt hour 24 && nat_lt minute 60) ≡ b → IfSome (cond b (signed sign (hour * 60 + minute)) None) IsCommitZone
by_clock true sign hour minute e =
    let small : hour * 60 + minute ≤ 1439 = grind (arith, nat_tests) in
    by_sign (sign == 43) (sign == 45) (hour * 60 + minute) small
by_clock false sign hour minute e = tt

offset_zone : (sign : ℕ) (hour minute : Option ℕ) → IfSome (offset_at sign hour minute) IsCommitZone
offset_zone sign (Some hour) (Some minute) = by_clock (nat_lt hour 24 && nat_lt minute 60) sign hour minute refl
offset_zone sign (Some hour) None = tt
offset_zone sign None minute = tt

-- By a name.
place_zone : (index : ℕ) → IsCommitZone (zone_at index)
place_zone zero = west 300 (omega arith)
place_zone (suc zero) = west 240 (omega arith)
place_zone (suc (suc zero)) = west 360 (omega arith)
place_zone (suc (suc (suc zero))) = west 300 (omega arith)
place_zone (suc (suc (suc (suc zero)))) = west 420 (omega arith)
place_zone (suc (suc (suc (suc (suc zero))))) = west 360 (omega arith)
place_zone (suc (suc (suc (suc (suc (suc zero)))))) = west 480 (omega arith)
place_zone (suc (suc (suc (suc (suc (suc (suc zero))))))) = west 420 (omega arith)
place_zone (suc (suc (suc (suc (suc (suc (suc (suc n)))))))) = east 0 (omega arith)

found_zone : (index : Option ℕ) → IfSome (option_map zone_at index) IsCommitZone
found_zone None = tt
found_zone (Some index) = place_zone index

utc_or : (b : Bool) (other : Option ℤ) → IfSome other IsCommitZone → IfSome (cond b (Some (pos 0)) other) IsCommitZone
utc_or true other h = east 0 (omega arith)
utc_or false other h = h

name_zone : (word : List ℕ) → IfSome (named_zone word) IsCommitZone
name_zone word = utc_or _ _ (found_zone (position (λ (name : List ℕ). str_eq_ignore_ascii_case word name) zone_names))

word_zone : (word : List ℕ) → IfSome (zone_of word) IsCommitZone
word_zone [] = name_zone []
word_zone (a ∷ []) = name_zone (a ∷ [])
word_zone (a ∷ b ∷ []) = name_zone (a ∷ b ∷ [])
word_zone (a ∷ b ∷ c ∷ []) = name_zone (a ∷ b ∷ c ∷ [])
word_zone (a ∷ b ∷ c ∷ d ∷ []) = name_zone (a ∷ b ∷ c ∷ d ∷ [])
word_zone (sign ∷ a ∷ b ∷ c ∷ d ∷ []) = offset_zone sign (number_of a b) (number_of c d)
word_zone (a ∷ b ∷ c ∷ d ∷ e ∷ f ∷ word) = name_zone (a ∷ b ∷ c ∷ d ∷ e ∷ f ∷ word)

-- The zone of a date.
joined_zone : (day month year : Option ℕ) (clock : Option Clock) (zone : Option ℤ) → IfSome zone IsCommitZone → IfSome (joined day month year clock zone) (λ (date : CivilDate). IsCommitZone date.zone)
joined_zone (Some day) (Some month) (Some year) (Some clock) (Some zone) h = h
joined_zone _ _ _ _ _ h = tt

if_comment : (b : Bool) (found : Option CivilDate) → IfSome found (λ (date : CivilDate). IsCommitZone date.zone) → IfSome (cond b found None) (λ (date : CivilDate). IsCommitZone date.zone)
if_comment true found h = h
if_comment false found h = tt

words_zone : (words : List (List ℕ)) → IfSome (date_of_words words) (λ (date : CivilDate). IsCommitZone date.zone)
words_zone (day ∷ month ∷ year ∷ clock ∷ zone ∷ others) =
    if_comment (is_comment others) _ (joined_zone (day_of day) (month_of month) (year_of year) (clock_of clock) (zone_of zone) (word_zone zone))
words_zone _ = tt

-- A moment before the end, in a zone.
pub record IsNear (moment : Moment) : Type 0 where
  pub secs : moment.secs ≤ last_second
  pub zone : IsCommitZone moment.zone

-- The moment that is in range.
below : (b : Bool) (secs : ℕ) (zone : ℤ) → IsCommitZone zone → nat_le secs last_second ≡ b → IfSome (cond b (Some (record { secs = secs; zone = zone })) None) IsNear
below true secs zone h e = record { secs = grind (arith, nat_tests); zone = h }
below false secs zone h e = tt

from_seconds : (secs : ℤ) (zone : ℤ) → IsCommitZone zone → IfSome (moment_from secs zone) IsNear
from_seconds (pos secs) zone h = below (nat_le secs last_second) secs zone h refl
from_seconds (negsuc n) zone h = tt

if_valid : (b : Bool) (found : Option Moment) → IfSome found IsNear → IfSome (cond b found None) IsNear
if_valid true found h = h
if_valid false found h = tt

of_date : (found : Option CivilDate) → IfSome found (λ (date : CivilDate). IsCommitZone date.zone) → IfSome (option_and_then moment_at found) IsNear
of_date None h = tt
of_date (Some date) h = if_valid (is_valid_day date && is_valid_time date) _ (from_seconds (seconds_of date) date.zone h)

of_value : (value : List ℕ) → IfSome (moment_in value) IsNear
unfolding moment_in
of_value value = of_date (date_of value) (words_zone (words_of (without_day value)))

of_field : (field : Option FieldText) → IfSome (option_and_then (λ (found : FieldText). moment_in found.value) field) IsNear
of_field None = tt
of_field (Some found) = of_value found.value

-- The moment of the first Date of a text.
pub date-near : (text : List ℕ) → IfSome (date_fact text) IsNear
unfolding date_fact
date-near text = of_field (first_named (codes "Date") (fields_of text))
