-- Private: the text of a name, written byte by byte.
use Rattle.std.specs.Prelude.{◌≡◌, ℕ, ◌==◌, List, [], ◌∷◌, ◌++◌, if◌then◌else◌}
use Rattle.mail_address.specs.declared.place.Place.{Place}
use Rattle.mail_address.specs.declared.words.Gap.{Gap}
use Rattle.mail_address.specs.declared.words.Gap.TheVariants.{Start, Word, Space}
use Rattle.mail_address.specs.Words.{stays_in_name}

-- The bytes that a byte appends to a name, by what precedes it there.
abbrev pub given : Gap → ℕ → List ℕ
given Start b = if b == 32 then [] else b ∷ []
given Word b = if b == 32 then [] else b ∷ []
given Space b = if b == 32 then [] else 32 ∷ b ∷ []

-- What then precedes the next byte.
abbrev pub gap_after : Gap → ℕ → Gap
gap_after Start b = if b == 32 then Start else Word
gap_after Word b = if b == 32 then Space else Word
gap_after Space b = if b == 32 then Space else Word

-- A byte of a name at a place is appended to the text: the text before and after, and what precedes
-- the next byte.
pub record PutsOfName (old new : List ℕ) (gap : Gap) (place : Place) (b : ℕ) (after : Gap)
    : Type 0 where
  pub text : new ≡ (if stays_in_name place b then old ++ given gap b else old)
  pub after_gap : after ≡ (if stays_in_name place b then gap_after gap b else gap)
