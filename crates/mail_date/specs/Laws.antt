-- Laws of these definitions.
use Rattle.std.specs.Prelude.{◌≡◌, ◌↔◌, ℕ, ◌≤◌, List, Option, Some}
use Rattle.mail_date.specs.declared.moment.Moment.{Moment}
use Rattle.mail_date.specs.declared.moment.CivilDate.{CivilDate}
use Rattle.mail_date.specs.Dates.{last_second}
use Rattle.mail_date.specs.Parts.{SpellsMoment}
use Rattle.mail_date.specs.Pieces.{IsZone}
use Rattle.mail_date.specs.Printed.{IsDateAt, mail_text}
use Rattle.mail_date.specs.Reading.{moment_in}

-- A text spells at most one moment.
abbrev pub SpelledMomentIsOne : Type 0
SpelledMomentIsOne = (text : List ℕ) (a b : Moment) → SpellsMoment text a → SpellsMoment text b → a ≡ b

-- A clock in a moment's zone shows one date.
abbrev pub PrintedDateIsOne : Type 0
PrintedDateIsOne = (moment : Moment) (a b : CivilDate) → IsDateAt moment a
    → IsDateAt moment b → a ≡ b

-- A Date that is written for a moment, in a zone less than a day from UTC, spells that moment.
abbrev pub WrittenDateIsSpelled : Type 0
WrittenDateIsSpelled =
    (moment : Moment) (date : CivilDate)
    → IsDateAt moment date → moment.secs ≤ last_second → IsZone moment.zone
    → SpellsMoment (mail_text date) moment

-- If a text is such a Date, the answer is that moment.
abbrev pub GivesWrittenMoment : List ℕ → Option Moment → Type 0
GivesWrittenMoment text answer =
    (moment : Moment) (date : CivilDate)
    → IsDateAt moment date → moment.secs ≤ last_second → IsZone moment.zone → text ≡ mail_text date
    → answer ≡ Some moment

-- The moment in a text is the one that it spells, and there is none if it spells none.
abbrev pub MomentIsSpelled : Type 0
MomentIsSpelled = (text : List ℕ) (moment : Moment)
    → moment_in text ≡ Some moment ↔ SpellsMoment text moment
