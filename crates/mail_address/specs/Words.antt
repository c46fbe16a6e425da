-- The texts of names and of addresses.
use Rattle.std.specs.Prelude.{ℕ, Bool, true, false, ◌&&◌, not, ◌==◌, List, [], ◌∷◌, if◌then◌else◌}
use Rattle.std.specs.List.{filter}
use Rattle.mail_address.specs.declared.place.Place.{Place}
use Rattle.mail_address.specs.declared.place.Place.TheVariants.{Outside, Pair, Quoted, QuotedPair, Comment, CommentPair}
use Rattle.mail_address.specs.Places.{next_place, next_name_place, marked_by, bytes_of}

-- The byte stays in a name. Quotes and comments are removed, and so is each backslash that isn't
-- itself quoted by one.
abbrev pub stays_in_name : Place → ℕ → Bool
stays_in_name Outside b = not (b == 34) && not (b == 40) && not (b == 92)
stays_in_name Pair b = true
stays_in_name Quoted b = not (b == 34) && not (b == 92)
stays_in_name QuotedPair b = true
stays_in_name (Comment depth) b = false
stays_in_name (CommentPair depth) b = false

-- The bytes of a name that stay, in order. The first byte is at `place`.
abbrev pub spoken_from : Place → List ℕ → List ℕ
spoken_from place bytes = bytes_of (filter (λ (mark : ℕ × Place).
    stays_in_name mark.1 mark.0) (marked_by next_name_place place bytes))

-- The text starts with a byte other than a space.
abbrev pub begins_word : List ℕ → Bool
begins_word [] = false
begins_word (b ∷ bs) = not (b == 32)

-- The text in which each run of spaces is one space, and a run at the end is none.
abbrev pub spaced : List ℕ → List ℕ
spaced [] = []
spaced (b ∷ bs) = if b == 32 && not (begins_word bs) then spaced bs else b ∷ spaced bs

-- The text without a space at its front.
abbrev pub without_space : List ℕ → List ℕ
without_space [] = []
without_space (b ∷ bs) = if b == 32 then bs else b ∷ bs

-- The text in which each run of spaces is one space, and none is at the ends.
abbrev pub joined_words : List ℕ → List ℕ
joined_words text = without_space (spaced text)

-- The name that bytes spell (RFC 5322, section 3.2.5, a display name).
abbrev pub name_text : List ℕ → List ℕ
name_text bytes = joined_words (spoken_from Outside bytes)

-- The byte stays in an address: comments are removed, and so are spaces outside of quoted strings.
abbrev pub stays_in_address : Place → ℕ → Bool
stays_in_address Outside b = not (b == 40) && not (b == 32)
stays_in_address (Comment depth) b = false
stays_in_address (CommentPair depth) b = false
stays_in_address _ b = true

-- The bytes of an address that stay, in order. The first byte is at `place`.
abbrev pub address_from : Place → List ℕ → List ℕ
address_from place bytes = bytes_of (filter (λ (mark : ℕ × Place).
    stays_in_address mark.1 mark.0) (marked_by next_place place bytes))

-- The address that bytes spell (RFC 5322, section 3.4.1).
abbrev pub address_text : List ℕ → List ℕ
address_text bytes = address_from Outside bytes
