-- What the data is in terms of its lines (RFC 5321, sections 2.3.8 and 4.5.2), and how it is cut.
use Rattle.std.specs.Prelude.{◌≡◌, ◌≢◌, ◌==◌, ◌↔◌, ℕ, if◌then◌else◌, List, [], ◌∷◌, ◌++◌}
use Rattle.lmtp_data.specs.Data.{Ended, scanned, then_scanned}
use Rattle.lmtp_data.specs.declared.place.Place.{Place}
use Rattle.lmtp_data.specs.declared.place.Place.TheVariants.{LineStart}

-- No CR LF stands in these octets.
abbrev pub HasNoLineEnd : List ℕ → Type 0
HasNoLineEnd line = (before behind : List ℕ) → line ≢ before ++ 13 ∷ 10 ∷ behind

-- These are lines as a client sends them: no CR LF stands in one, and none is a dot alone.
abbrev pub AreSentLines : List (List ℕ) → Type 0
AreSentLines [] = Unit {0}
AreSentLines (line ∷ lines) = HasNoLineEnd line × (line ≢ 46 ∷ []) × AreSentLines lines

-- The bytes of these lines, each with its line end, and then those behind them.
abbrev pub sent : List (List ℕ) → List ℕ → List ℕ
sent [] behind = behind
sent (line ∷ lines) behind = line ++ 13 ∷ 10 ∷ sent lines behind

-- The line without a dot at its start.
abbrev pub undotted : List ℕ → List ℕ
undotted [] = []
undotted (b ∷ bs) = if b == 46 then bs else b ∷ bs

-- The octets of these lines as they are delivered, each with its line end.
abbrev pub received : List (List ℕ) → List ℕ
received [] = []
received (line ∷ lines) = undotted line ++ 13 ∷ 10 ∷ received lines

-- Bytes have ended data exactly where they are lines and then a line of one dot. The data is these
-- lines without the dots at their starts.
abbrev pub SentLinesLaw : Type 0
SentLinesLaw = (bytes octets rest : List ℕ) → scanned LineStart bytes ≡ Ended octets rest
    ↔ (lines : List (List ℕ)) × AreSentLines lines × (bytes ≡ sent lines (46 ∷ 13 ∷ 10 ∷ rest))
    × (octets ≡ received lines)

-- What two pieces in order say is what both joined say.
abbrev pub DataCutLaw : Type 0
DataCutLaw = (place : Place) (bytes more : List ℕ)
    → scanned place (bytes ++ more) ≡ then_scanned (scanned place bytes) more

-- The laws of the data.
pub record DataLaws : Type 0 where
  pub lines : SentLinesLaw
  pub cut : DataCutLaw
