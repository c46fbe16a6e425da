-- A text spells one moment, and a moment has one date.
use Rattle.std.proofs.Common.{◌≡◌, ℕ, ◌+◌, ◌*◌, ◌<◌, ◌≤◌, refl, sym, ◌∙◌, subst, arith, ℤ, pos, ◌+ℤ◌, ◌-ℤ◌, ◌*ℤ◌, min}
use Rattle.std.proofs.lemmas.Option.{same_Some}
use Rattle.jiff_core.specs.declared.civil.date.Date.{Date}
use Rattle.jiff_core.specs.Calendar.{days_from_civil}
use Rattle.jiff_core.proofs.SignedLemmas.{signed_arith}
use Rattle.jiff_core.proofs.DateLemmas.{epoch_day_injective}
use Rattle.mail_date.specs.declared.moment.Moment.{Moment}
use Rattle.mail_date.specs.declared.moment.CivilDate.{CivilDate}
use Rattle.mail_date.specs.Dates.{IsValid, IsValidDay, second_of_day, civil_seconds, IsMomentOf}
use Rattle.mail_date.proofs.PartLemmas.{parts_spell}
use Rattle.mail_date.specs.Laws.{SpelledMomentIsOne, PrintedDateIsOne}

same_moment : (s t : ℕ) (y z : ℤ) → s ≡ t → y ≡ z → let a : Moment = record { secs = s; zone = y } in let b : Moment = record { secs = t; zone = z } in a ≡ b
same_moment s t y z e f = rw (e, f) refl

one_moment : (date : CivilDate) (a b : Moment) → IsMomentOf date a → IsMomentOf date b → a ≡ b
one_moment date a b h k =
    let both : pos a.secs ≡ pos b.secs = h.secs ∙ sym k.secs in
    same_moment a.secs b.secs a.zone b.zone (cc) (h.zone ∙ sym k.zone)

pub one_spelled : SpelledMomentIsOne
one_spelled text a b h k =
    let same : h.0 ≡ k.0 = same_Some _ _ (sym (parts_spell text h.0 h.1) ∙ parts_spell text k.0 k.1) in
    one_moment k.0 a b (subst (λ (date : CivilDate). IsMomentOf date a) same h.2) k.2

-- The day that the calendar has.
abbrev day_in_calendar : (date : CivilDate) → IsValidDay date → Date
day_in_calendar date h = record { year = pos date.year; month = date.month; day = date.day; year_in = omega (arith, signed_arith); month_in = h.month; day_in = h.day }

same_clock_seconds : (x y z : ℤ) (n : ℕ) → x -ℤ z ≡ pos n → y -ℤ z ≡ pos n → x ≡ y
same_clock_seconds x y z n e f = omega (arith, signed_arith)

same_day : (x y : ℤ) (s t : ℕ) → s < 86400 → t < 86400 → (x *ℤ pos 86400) +ℤ pos s ≡ (y *ℤ pos 86400) +ℤ pos t → (x ≡ y) × (s ≡ t)
same_day x y s t h k e =
    let days : x ≡ y = omega (arith, signed_arith) in
    (days, omega (arith, signed_arith))

plain_second : (s : ℕ) → s ≤ 59 → min s 59 ≡ s
plain_second s h = grind (arith)

same_time : (h m s hh mm ss : ℕ) → m ≤ 59 → s ≤ 59 → mm ≤ 59 → ss ≤ 59 → h * 3600 + m * 60 + min s 59 ≡ hh * 3600 + mm * 60 + min ss 59 → (h ≡ hh) × (m ≡ mm) × (s ≡ ss)
same_time h m s hh mm ss a b c d e =
    let f = plain_second s b in
    let g = plain_second ss d in
    (omega arith, omega arith, omega arith)

day_bound : (date : CivilDate) → IsValid date → second_of_day date < 86400
day_bound date h =
    let most : min date.second 59 ≤ 59 = grind (arith) in
    let hour = h.hour in
    let minute = h.minute in
    omega arith

same_date : (y m d h mi s : ℕ) (z : ℤ) (yy mm dd hh mimi ss : ℕ) (zz : ℤ) → y ≡ yy → m ≡ mm → d ≡ dd → h ≡ hh → mi ≡ mimi → s ≡ ss → z ≡ zz → let a : CivilDate = record { year = y; month = m; day = d; hour = h; minute = mi; second = s; zone = z } in let b : CivilDate = record { year = yy; month = mm; day = dd; hour = hh; minute = mimi; second = ss; zone = zz } in a ≡ b
same_date y m d h mi s z yy mm dd hh mimi ss zz a b c e f g i = rw (a, b, c, e, f, g, i) refl

pub one_date : PrintedDateIsOne
one_date moment a b h k =
    let at_b : civil_seconds b -ℤ (a.zone *ℤ pos 60) ≡ pos moment.secs = subst (λ (z : ℤ). civil_seconds b -ℤ (z *ℤ pos 60) ≡ pos moment.secs) (k.zone ∙ sym h.zone) k.secs in
    let clocks : civil_seconds a ≡ civil_seconds b = same_clock_seconds (civil_seconds a) (civil_seconds b) (a.zone *ℤ pos 60) moment.secs h.secs at_b in
    let parts = same_day (days_from_civil (pos a.year) a.month a.day) (days_from_civil (pos b.year) b.month b.day) (second_of_day a) (second_of_day b) (day_bound a h.valid) (day_bound b k.valid) clocks in
    let days = epoch_day_injective (day_in_calendar a h.valid.day) (day_in_calendar b k.valid.day) parts.0 in
    let times = same_time a.hour a.minute a.second b.hour b.minute b.second h.valid.minute h.second k.valid.minute k.second parts.1 in
    let year : pos a.year ≡ pos b.year = days.0 in
    same_date _ _ _ _ _ _ _ _ _ _ _ _ _ _ (cc) days.1 days.2 times.0 times.1 times.2 (h.zone ∙ sym k.zone)
