-- The moment in a text is the one that it spells.
use Rattle.std.proofs.Common.{◌≡◌, ℕ, ◌≤◌, ◌&&◌, nat_le, Bool, true, false, cond, List, Option, Some, None, IfNone, refl, sym, ◌∙◌, ap, arith, ℤ, pos, negsuc}
use Rattle.std.specs.Prelude.{IfSome, option_and_then}
use Rattle.std.proofs.lemmas.Bool.{and_parts}
use Rattle.std.proofs.lemmas.Bool.Decides.{nat_tests}
use Rattle.std.proofs.lemmas.Option.{same_Some, none-some}
use Rattle.jiff_core.proofs.SignedLemmas.{signed_arith}
use Rattle.mail_date.specs.declared.moment.Moment.{Moment}
use Rattle.mail_date.specs.declared.moment.CivilDate.{CivilDate}
use Rattle.mail_date.specs.Dates.{last_second, seconds_of, IsValid, IsValidDay, IsMomentOf}
use Rattle.mail_date.specs.Reading.{date_of, is_valid_day, is_valid_time, moment_from, moment_at, moment_in}
use Rattle.mail_date.specs.Parts.{SpellsMoment}
use Rattle.mail_date.specs.Laws.{MomentIsSpelled}
use Rattle.mail_date.proofs.OneLemmas.{one_spelled}
use Rattle.mail_date.proofs.ReadLemmas.{spelled_by_date, refused_by_date, refused_without_date}

-- A date that passes the tests is valid.
valid_day : (date : CivilDate) → is_valid_day date ≡ true → IsValidDay date
valid_day date h = grind (arith, nat_tests)

valid_by : (date : CivilDate) → (is_valid_day date && is_valid_time date) ≡ true → IsValid date
valid_by date h =
    let parts = and_parts (is_valid_day date) (is_valid_time date) h in
    let day : IsValidDay date = valid_day date parts.0 in
    let time : is_valid_time date ≡ true = parts.1 in
    record { day = day; hour = grind (arith, nat_tests); minute = grind (arith, nat_tests); second = grind (arith, nat_tests) }

valid_day_test : (date : CivilDate) → IsValidDay date → is_valid_day date ≡ true
valid_day_test date h = grind (arith, nat_tests)

valid_time_test : (date : CivilDate) → IsValid date → is_valid_time date ≡ true
valid_time_test date h = grind (arith, nat_tests)

-- The moment of valid seconds and a zone.
from_at : (secs : ℕ) (t : Bool) (date : CivilDate) → nat_le secs last_second ≡ t → pos secs ≡ seconds_of date → IsValid date
    → IfSome {T = Moment} (cond t (Some (record { secs = secs; zone = date.zone })) None) (IsMomentOf date)
from_at secs false date e same valid = tt
from_at secs true date e same valid = record { valid = valid; secs = same; bound = grind (arith, nat_tests); zone = refl }

from_is : (s : ℤ) (date : CivilDate) → s ≡ seconds_of date → IsValid date → IfSome (moment_from s date.zone) (IsMomentOf date)
from_is (negsuc n) date same valid = tt
from_is (pos secs) date same valid = from_at secs (nat_le secs last_second) date refl same valid

beyond : (secs : ℕ) (date : CivilDate) → nat_le secs last_second ≡ false → pos secs ≡ seconds_of date → (moment : Moment) → IsMomentOf date moment → ⊥
beyond secs date e same moment h =
    let both : pos moment.secs ≡ pos secs = h.secs ∙ sym same in
    let one : moment.secs ≡ secs = cc in
    let bound : moment.secs ≤ last_second = h.bound in
    let high : secs ≤ last_second = rw one at bound in
    grind (arith, nat_tests)

none_at : (secs : ℕ) (t : Bool) (date : CivilDate) → nat_le secs last_second ≡ t → pos secs ≡ seconds_of date
    → IfNone {T = Moment} (cond t (Some (record { secs = secs; zone = date.zone })) None) ((moment : Moment) → IsMomentOf date moment → ⊥)
none_at secs true date e same = tt
none_at secs false date e same = beyond secs date e same

before_1970 : (n m : ℕ) → pos m ≡ negsuc n → ⊥
before_1970 n m e = omega (arith, signed_arith)

from_none : (s : ℤ) (date : CivilDate) → s ≡ seconds_of date → IfNone (moment_from s date.zone) ((moment : Moment) → IsMomentOf date moment → ⊥)
from_none (negsuc n) date same = λ moment h. before_1970 n moment.secs (h.secs ∙ sym same)
from_none (pos secs) date same = none_at secs (nat_le secs last_second) date refl same

-- The moment of a date, by whether the date is valid.
at_is : (t : Bool) (date : CivilDate) → (is_valid_day date && is_valid_time date) ≡ t
    → IfSome (cond t (moment_from (seconds_of date) date.zone) None) (IsMomentOf date)
at_is false date e = tt
at_is true date e = from_is (seconds_of date) date refl (valid_by date e)

invalid : (date : CivilDate) → (is_valid_day date && is_valid_time date) ≡ false → IsValid date → ⊥
invalid date e valid =
    let day : is_valid_day date ≡ true = valid_day_test date valid.day in
    let time : is_valid_time date ≡ true = valid_time_test date valid in
    let both : (is_valid_day date && is_valid_time date) ≡ true = rw (day, time) refl in
    cc

at_none : (t : Bool) (date : CivilDate) → (is_valid_day date && is_valid_time date) ≡ t
    → IfNone (cond t (moment_from (seconds_of date) date.zone) None) ((moment : Moment) → IsMomentOf date moment → ⊥)
at_none false date e = λ moment h. invalid date e h.valid
at_none true date e = from_none (seconds_of date) date refl

moment_at-is : (date : CivilDate) → IfSome (moment_at date) (IsMomentOf date)
moment_at-is date = at_is (is_valid_day date && is_valid_time date) date refl

moment_at-none : (date : CivilDate) → IfNone (moment_at date) ((moment : Moment) → IsMomentOf date moment → ⊥)
moment_at-none date = at_none (is_valid_day date && is_valid_time date) date refl

-- The moment in a text, by its date.
in_is : (d : Option CivilDate) (text : List ℕ) → d ≡ date_of text → IfSome (option_and_then moment_at d) (SpellsMoment text)
in_is None text e = tt
in_is (Some date) text e = spelled_by_date (moment_at date) text date e (moment_at-is date)

in_none : (d : Option CivilDate) (text : List ℕ) → d ≡ date_of text → IfNone (option_and_then moment_at d) ((moment : Moment) → SpellsMoment text moment → ⊥)
in_none None text e = refused_without_date None text e
in_none (Some date) text e = refused_by_date (moment_at date) text date e (moment_at-none date)

moment_in-is : (text : List ℕ) → IfSome (moment_in text) (SpellsMoment text)
unfolding moment_in
moment_in-is text = in_is (date_of text) text refl

moment_in-none : (text : List ℕ) → IfNone (moment_in text) ((moment : Moment) → SpellsMoment text moment → ⊥)
unfolding moment_in
moment_in-none text = in_none (date_of text) text refl

-- Two answers are the same if each is spelled, and is `None` only if nothing is spelled.
same_answer : (a b : Option Moment) (text : List ℕ) → IfSome a (SpellsMoment text) → IfNone a ((moment : Moment) → SpellsMoment text moment → ⊥)
    → IfSome b (SpellsMoment text) → IfNone b ((moment : Moment) → SpellsMoment text moment → ⊥) → a ≡ b
same_answer None None text h k i j = refl
same_answer None (Some m) text h k i j = absurd (k m i)
same_answer (Some m) None text h k i j = absurd (j m h)
same_answer (Some m) (Some n) text h k i j = ap (λ (x : Moment). Some x) (one_spelled text m n h i)

-- Such an answer is the moment in the text.
pub answer_in : (answer : Option Moment) (text : List ℕ) → IfSome answer (SpellsMoment text) → IfNone answer ((moment : Moment) → SpellsMoment text moment → ⊥) → answer ≡ moment_in text
answer_in answer text h k = same_answer answer (moment_in text) text h k (moment_in-is text) (moment_in-none text)

spelled_where : (a : Option Moment) (text : List ℕ) (moment : Moment) → IfSome a (SpellsMoment text) → a ≡ Some moment → SpellsMoment text moment
spelled_where None text moment h e = absurd (none-some _ e)
spelled_where (Some m) text moment h e = rw (same_Some _ _ e) at h

pub moment_spelled : MomentIsSpelled
moment_spelled text moment = (
  spelled_where (moment_in text) text moment (moment_in-is text),
  λ h. sym (answer_in (Some moment) text h tt),
)
