-- The texts of names and addresses, byte by byte.
use Rattle.std.proofs.Common.{◌≡◌, ℕ, ◌+◌, Bool, true, false, ◌==◌, List, [], ◌∷◌, ◌++◌, drop, refl, sym, ◌∙◌, ap}
use Rattle.std.proofs.lemmas.Bool.{eqb-true}
use Rattle.mail_address.specs.declared.place.Place.{Place}
use Rattle.mail_address.specs.declared.words.Gap.{Gap}
use Rattle.mail_address.specs.declared.words.Gap.TheVariants.{Start, Word, Space}
use Rattle.mail_address.specs.Words.{spoken_from, address_from, spaced, without_space, joined_words}
use Rattle.mail_address.specs.Gaps.{given, gap_after}

-- The bytes that bytes append to a name, one after another.
abbrev pub given_from : Gap → List ℕ → List ℕ
given_from gap [] = []
given_from gap (b ∷ bs) = given gap b ++ given_from (gap_after gap b) bs

-- After a word, and after a space that waits, the words that follow are unchanged.
abbrev GivesSpaced : List ℕ → Type 0
GivesSpaced bs = (given_from Word bs ≡ spaced bs) × (given_from Space bs ≡ spaced (32 ∷ bs))

gives_spaced-step : (b : ℕ) (bs : List ℕ) (t : Bool) → (b == 32) ≡ t → GivesSpaced bs → GivesSpaced (b ∷ bs)
gives_spaced-step b bs true e ih = let is : b ≡ 32 = eqb-true b 32 e in (rw is ih.1, rw is ih.1)
gives_spaced-step b bs false e ih =
    (rw e (ap (λ (ys : List ℕ). b ∷ ys) ih.0), rw e (ap (λ (ys : List ℕ). 32 ∷ b ∷ ys) ih.0))

gives_spaced : (bs : List ℕ) → GivesSpaced bs
gives_spaced [] = (refl, refl)
gives_spaced (b ∷ bs) = gives_spaced-step b bs (b == 32) refl (gives_spaced bs)

-- A space at the front is trimmed.
without_space-step : (b : ℕ) (bs : List ℕ) (t : Bool) → (b == 32) ≡ t → without_space (spaced (32 ∷ b ∷ bs)) ≡ without_space (spaced (b ∷ bs))
without_space-step b bs true e = rw e refl
without_space-step b bs false e = rw e (rw e refl)

pub without_space-space : (bs : List ℕ) → without_space (spaced (32 ∷ bs)) ≡ without_space (spaced bs)
without_space-space [] = refl
without_space-space (b ∷ bs) = without_space-step b bs (b == 32) refl

given_from-start-step : (b : ℕ) (bs : List ℕ) (t : Bool) → (b == 32) ≡ t → given_from Start bs ≡ joined_words bs → given_from Start (b ∷ bs) ≡ joined_words (b ∷ bs)
given_from-start-step b bs true e ih = let is : b ≡ 32 = eqb-true b 32 e in rw is (ih ∙ sym (without_space-space bs))
given_from-start-step b bs false e ih = rw e (rw e (ap (λ (ys : List ℕ). b ∷ ys) (gives_spaced bs).0))

-- From the start, bytes give their words.
pub given_from-start : (bs : List ℕ) → given_from Start bs ≡ joined_words bs
given_from-start [] = refl
given_from-start (b ∷ bs) = given_from-start-step b bs (b == 32) refl (given_from-start bs)

-- The text of a name, with what the bytes from an index on append to it.
abbrev pub name_from : List ℕ → Gap → Place → List ℕ → ℕ → List ℕ
name_from text gap place xs i = text ++ given_from gap (spoken_from place (drop i xs))

-- The text of an address, with what the bytes from an index on append to it.
abbrev pub text_from : List ℕ → Place → List ℕ → ℕ → List ℕ
text_from text place xs i = text ++ address_from place (drop i xs)
