-- Where the bytes of a structured field are: outside of quoted strings and comments, or in one of
-- them. The forms are those of RFC 5322, sections 3.2.1, 3.2.2 and 3.2.4. One that isn't closed
-- ends with the bytes.
use Rattle.std.specs.Prelude.{ℕ, ◌+◌, ◌-◌, Bool, true, false, ◌&&◌, ◌==◌, nat_le, List, [], ◌∷◌, if◌then◌else◌, map}
use Rattle.mail_address.specs.declared.place.Place.{Place}
use Rattle.mail_address.specs.declared.place.Place.TheVariants.{Outside, Pair, Quoted, QuotedPair, Comment, CommentPair}
use Rattle.mail_address.specs.declared.place.Sought.{Sought}
use Rattle.mail_address.specs.declared.place.Sought.TheVariants.{OpenBracket, CloseBracket, CommentEnd}

-- The number of comments around a place.
abbrev pub depth_of : Place → ℕ
depth_of (Comment depth) = depth
depth_of (CommentPair depth) = depth
depth_of _ = 0

-- The place after the end of a comment at this depth, which is 1 for an outermost comment.
abbrev pub place_after_comment : ℕ → Place
place_after_comment depth = if nat_le depth 1 then Outside else Comment (depth - 1)

-- The place of the byte after a byte. A quoted string extends from `"` to the next `"`, and a
-- comment from `(` to the matching `)`. Comments nest, and in both a backslash quotes the next
-- byte.
abbrev pub next_place : Place → ℕ → Place
next_place Outside b = if b == 34 then Quoted else (if b == 40 then Comment 1 else Outside)
next_place Pair b = Outside
next_place Quoted b = if b == 92 then QuotedPair else (if b == 34 then Outside else Quoted)
next_place QuotedPair b = Quoted
next_place (Comment depth) b =
    if b == 92 then CommentPair depth else (if b == 40 then Comment (depth + 1)
    else (if b == 41 then place_after_comment depth else Comment depth))
next_place (CommentPair depth) b = Comment depth

-- The place of the byte after a byte of a name. There a backslash quotes the next byte outside of
-- quoted strings and comments, too.
abbrev pub next_name_place : Place → ℕ → Place
next_name_place Outside b = if b == 92 then Pair else next_place Outside b
next_name_place place b = next_place place b

-- Each byte with its place. The first byte is at `place`.
abbrev pub marked_by : (Place → ℕ → Place) → Place → List ℕ → List (ℕ × Place)
marked_by next place [] = []
marked_by next place (b ∷ bs) = (b, place) ∷ marked_by next (next place b) bs

-- Each byte of a value, or of an item, with its place.
abbrev pub marked : List ℕ → List (ℕ × Place)
marked bytes = marked_by next_place Outside bytes

-- The bytes without their places.
abbrev pub bytes_of : List (ℕ × Place) → List ℕ
bytes_of marks = map (λ (mark : ℕ × Place). mark.0) marks

-- The place is outside of quoted strings and comments.
abbrev pub is_outside : Place → Bool
is_outside Outside = true
is_outside _ = false

-- The place is in an outermost comment, and not after a backslash there.
abbrev pub is_in_one_comment : Place → Bool
is_in_one_comment (Comment depth) = nat_le depth 1
is_in_one_comment _ = false

-- The byte is the one searched for: `<` or `>` outside of quoted strings and comments, or the `)`
-- that ends an outermost comment.
abbrev pub is_sought : Sought → ℕ × Place → Bool
is_sought OpenBracket mark = is_outside mark.1 && mark.0 == 60
is_sought CloseBracket mark = is_outside mark.1 && mark.0 == 62
is_sought CommentEnd mark = is_in_one_comment mark.1 && mark.0 == 41

-- The byte is the `(` of an outermost comment.
abbrev pub is_comment_start : ℕ × Place → Bool
is_comment_start mark = is_outside mark.1 && mark.0 == 40
