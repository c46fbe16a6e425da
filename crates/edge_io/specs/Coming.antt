-- The moments that a clock will still give, if it is told.
use Rattle.std.specs.Prelude.{◌≡◌, ℕ, List, [], ◌∷◌, Option, Some, None}

-- The next moment, and those after it. There is always at least one.
pub record Moments : Type 0 where
  pub next : ℕ
  pub later : List ℕ

-- The moments to come from a list that has at least one.
abbrev pub moments_of : List ℕ → Moments
moments_of [] = record { next = 0; later = [] }
moments_of (moment ∷ moments) = record { next = moment; later = moments }

-- The moments after the first one is given: the rest, or the same moment again if it is the last.
abbrev pub passed_by : ℕ → List ℕ → Moments
passed_by next [] = record { next = next; later = [] }
passed_by next (moment ∷ moments) = record { next = moment; later = moments }

-- The moments to come after one was given.
abbrev pub passed : Moments → Moments
passed moments = passed_by moments.next moments.later

-- The moments to come after one was given, if they are told. None stays None.
abbrev pub after_first : Option Moments → Option Moments
after_first None = None
after_first (Some moments) = Some (passed moments)

-- The moment is the first of those to come, if they are told.
abbrev pub IsFirstMoment : ℕ → Option Moments → Type 0
IsFirstMoment moment None = Unit {0}
IsFirstMoment moment (Some moments) = moment ≡ moments.next
