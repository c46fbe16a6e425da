-- Private: the rest of a text after a piece at its front.
use Rattle.std.specs.Prelude.{◌≡◌, ℕ, List, [], ◌++◌, Option, MatchOption}
use Rattle.std.specs.Borrow.{Bor}
use Rattle.std.specs.List.{concat}
use Rattle.mail_reader.specs.Lines.{after_header}
use Rattle.mail_reader.specs.Stored.{clean_lines, kept_fields}
use Rattle.mail_reader.specs.declared.storing.Place.{Place}
use Rattle.mail_reader.specs.declared.storing.Place.TheVariants.{Start, Kept, Dropped}

-- The text doesn't start with the piece.
abbrev pub NotBegun : List ℕ → List ℕ → Type 0
NotBegun text piece = (more : List ℕ) → text ≡ piece ++ more → ⊥

-- The rest of the text after a piece at its front, or `None` if the text doesn't start with it.
abbrev pub IsRestAfter : List ℕ → List ℕ → Option (Bor (List ℕ)) → Type 0
IsRestAfter text piece found = MatchOption found (NotBegun text piece) (λ more. text ≡ piece ++ more.now)

-- What is kept of a line at its place.
abbrev pub piece_at : Place → List ℕ → List ℕ
piece_at Start line = []
piece_at Kept line = line
piece_at Dropped line = []

-- The rest of the text after the kept fields of the bytes, and the rest of the bytes after their
-- header.
abbrev pub FollowsFields : List ℕ → List ℕ → Option (Bor (List ℕ) × Bor (List ℕ)) → Type 0
FollowsFields text bytes found =
    MatchOption found (NotBegun text (concat (kept_fields (clean_lines bytes))))
    (λ after. (text ≡ concat (kept_fields (clean_lines bytes)) ++ after.0.now)
    × (clean_lines after.1.now ≡ after_header (clean_lines bytes)))
