-- Laws of the wire form.
use Rattle.std.specs.Prelude.{◌≡◌, ◌≢◌, ℕ, ◌+◌, Bool, false, ◌==◌, List, [], ◌∷◌, length}
use Rattle.mail_forms.specs.WireForms.{wire_of, feeds_of}

-- The wire form is longer than its text by the number of line feeds.
abbrev pub WireLenIsSum : Type 0
WireLenIsSum = (text : List ℕ) → length (wire_of text) ≡ length text + feeds_of text

-- The rest of a wire form, after a carriage return or not: a line feed comes exactly after a
-- carriage return, and there is no NUL (RFC 5321, section 2.3.8).
abbrev pub EndAsSent : Bool → List ℕ → Type 0
EndAsSent returned [] = returned ≡ false
EndAsSent returned (b ∷ bs) = ((b == 10) ≡ returned) × (b ≢ 0) × EndAsSent (b == 13) bs

-- The lines of each wire form end with a carriage return and a line feed, and neither of these is
-- anywhere else.
abbrev pub WireLinesEndAsSent : Type 0
WireLinesEndAsSent = (text : List ℕ) → EndAsSent false (wire_of text)
