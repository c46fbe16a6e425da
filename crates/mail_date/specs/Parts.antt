-- The text of a date, part by part.
use Rattle.std.specs.Prelude.{◌≡◌, ℕ, ◌≤◌, ◌⊎◌, true, List, [], ◌∷◌, ◌++◌, length, Some}
use Rattle.std.specs.List.{list_all}
use Rattle.mail_date.specs.declared.moment.Moment.{Moment}
use Rattle.mail_date.specs.declared.moment.CivilDate.{CivilDate}
use Rattle.mail_date.specs.Words.{is_white, is_word_byte, is_day_name}
use Rattle.mail_date.specs.Pieces.{day_of, month_of, year_of, clock_of, zone_of}
use Rattle.mail_date.specs.Dates.{joined, IsMomentOf}

-- White space, or nothing.
abbrev pub IsWhite : List ℕ → Type 0
IsWhite text = list_all is_white text ≡ true

-- White space between two parts: at least one byte.
pub record IsGap (text : List ℕ) : Type 0 where
  pub some : 1 ≤ length text
  pub white : IsWhite text

-- A part itself: at least one byte, and no white space.
pub record IsDateWord (text : List ℕ) : Type 0 where
  pub some : 1 ≤ length text
  pub bytes : list_all is_word_byte text ≡ true

-- A day's name of three letters and a comma, with optional white space before and after.
pub record IsDayOpening (text : List ℕ) : Type 0 where
  pub before : List ℕ
  pub after : List ℕ
  pub first : ℕ
  pub second : ℕ
  pub third : ℕ
  pub whole : text ≡ before ++ (first ∷ second ∷ third ∷ 44 ∷ after)
  pub named : is_day_name (first ∷ second ∷ third ∷ []) ≡ true
  pub white_before : IsWhite before
  pub white_after : IsWhite after

-- The text before the day of the month: white space or nothing, or the name of a day.
abbrev pub IsDateOpening : List ℕ → Type 0
IsDateOpening text = IsWhite text ⊎ IsDayOpening text

-- White space, an opening parenthesis and any bytes.
pub record IsCommentEnding (text : List ℕ) : Type 0 where
  pub gap : List ℕ
  pub comment : List ℕ
  pub whole : text ≡ gap ++ (40 ∷ comment)
  pub is_gap : IsGap gap

-- The text after the zone: white space or nothing, or a comment.
abbrev pub IsEnding : List ℕ → Type 0
IsEnding text = IsWhite text ⊎ IsCommentEnding text

-- The parts of a text that spells a date: `[Day,] D Mon YYYY hh:mm[:ss] zone`, then optionally
-- white space and a comment.
pub record DateParts (text : List ℕ) (date : CivilDate) : Type 0 where
  pub opening : List ℕ
  pub day : List ℕ
  pub after_day : List ℕ
  pub month : List ℕ
  pub after_month : List ℕ
  pub year : List ℕ
  pub after_year : List ℕ
  pub clock : List ℕ
  pub after_clock : List ℕ
  pub zone : List ℕ
  pub ending : List ℕ
  pub whole : text ≡ opening ++ (day ++ (after_day ++ (month ++ (after_month
      ++ (year ++ (after_year ++ (clock ++ (after_clock ++ (zone ++ ending)))))))))
  pub opens : IsDateOpening opening
  pub is_day : IsDateWord day
  pub gap_after_day : IsGap after_day
  pub is_month : IsDateWord month
  pub gap_after_month : IsGap after_month
  pub is_year : IsDateWord year
  pub gap_after_year : IsGap after_year
  pub is_clock : IsDateWord clock
  pub gap_after_clock : IsGap after_clock
  pub is_zone : IsDateWord zone
  pub ends : IsEnding ending
  pub value : joined (day_of day) (month_of month) (year_of year) (clock_of clock) (zone_of zone)
      ≡ Some date

-- The text spells the moment: it consists of the parts of a date that names the moment.
abbrev pub SpellsMoment : List ℕ → Moment → Type 0
SpellsMoment text moment = (date : CivilDate) × DateParts text date × IsMomentOf date moment
