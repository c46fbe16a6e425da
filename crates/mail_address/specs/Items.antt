-- The items of an address list (RFC 5322, section 3.4), and the parts of an item.
use Rattle.std.specs.Prelude.{◌≡◌, ◌<◌, ℕ, ◌+◌, Bool, true, false, ◌&&◌, ◌||◌, not, ◌==◌, nat_lt, List, [], ◌∷◌, length, take, drop, if◌then◌else◌}
use Rattle.std.specs.List.{position_or_len, before_first}
use Rattle.mail_address.specs.declared.place.Place.{Place}
use Rattle.mail_address.specs.declared.place.Place.TheVariants.{Outside}
use Rattle.mail_address.specs.declared.place.Sought.{Sought}
use Rattle.mail_address.specs.declared.place.Sought.TheVariants.{OpenBracket, CloseBracket, CommentEnd}
use Rattle.mail_address.specs.declared.items.Ending.{Ending}
use Rattle.mail_address.specs.declared.items.Ending.TheVariants.{Comma, Colon, Semicolon}
use Rattle.mail_address.specs.Places.{next_place, marked_by, marked, bytes_of, is_outside, is_sought, is_comment_start}
use Rattle.mail_address.specs.Splits.{split_last, part_after}

-- The byte ends an item: a comma, a semicolon, or, if no group is open, a colon; each outside of
-- quoted strings, of comments and of `<` to `>`.
abbrev pub ends_item : Bool → Bool → ℕ × Place → Bool
ends_item grouped bracketed mark =
    not bracketed && is_outside mark.1
    && (mark.0 == 44 || mark.0 == 59 || (mark.0 == 58 && not grouped))

-- The kind of end that a byte is.
abbrev pub ending_of : ℕ → Ending
ending_of b = if b == 44 then Comma else (if b == 58 then Colon else Semicolon)

-- A group is open after the end of an item. `grouped` says whether one was open before.
abbrev pub is_grouped_after : Bool → Ending → Bool
is_grouped_after grouped Comma = grouped
is_grouped_after grouped Colon = true
is_grouped_after grouped Semicolon = false

-- The byte after this one is between `<` and `>`. The flag says whether this one is.
abbrev pub is_bracketed_after : Bool → ℕ × Place → Bool
is_bracketed_after false mark = is_sought OpenBracket mark
is_bracketed_after true mark = not (is_sought CloseBracket mark)

-- The items with one more byte at the front of the first.
abbrev pub onto_item : ℕ → List (List ℕ × Ending) → List (List ℕ × Ending)
onto_item b [] = []
onto_item b (item ∷ items) = (b ∷ item.0, item.1) ∷ items

-- Bytes with their places, cut into items, each with its end. The end of the value ends the last
-- item, and an open group, as a semicolon does.
abbrev pub cut : Bool → Bool → List (ℕ × Place) → List (List ℕ × Ending)
cut grouped bracketed [] = ([], Semicolon) ∷ []
cut grouped bracketed (mark ∷ marks) =
    if ends_item grouped bracketed mark
    then ([], ending_of mark.0) ∷ cut (is_grouped_after grouped (ending_of mark.0)) false marks
    else onto_item mark.0 (cut grouped (is_bracketed_after bracketed mark) marks)

-- The items of bytes. `grouped` says whether a group is open before them.
abbrev pub items_of : Bool → List ℕ → List (List ℕ × Ending)
items_of grouped bytes = cut grouped false (marked bytes)

-- The number of bytes before the first byte that is searched for, or the length if there is none.
-- The first byte is at `place`.
abbrev pub len_before : Sought → Place → List ℕ → ℕ
len_before sought place bytes = position_or_len (is_sought sought) (marked_by next_place place bytes)

-- The item has a `<` outside of quoted strings and comments.
abbrev pub has_bracket : List ℕ → Bool
has_bracket item = nat_lt (len_before OpenBracket Outside item) (length item)

-- The bytes before that `<`.
abbrev pub before_bracket : List ℕ → List ℕ
before_bracket item = take (len_before OpenBracket Outside item) item

-- The bytes after that `<`.
abbrev pub after_bracket : List ℕ → List ℕ
after_bracket item = drop (len_before OpenBracket Outside item + 1) item

-- The bytes before the next `>`, or all if there is none.
abbrev pub up_to_bracket : List ℕ → List ℕ
up_to_bracket bytes = take (len_before CloseBracket Outside bytes) bytes

-- The bytes, with their places, after the `(` of the last outermost comment.
abbrev pub after_comment_start : List (ℕ × Place) → List (ℕ × Place)
after_comment_start marks = part_after [] (split_last is_comment_start marks)

-- The inside of the last comment, or nothing if there is none.
abbrev pub last_comment : List ℕ → List ℕ
last_comment item =
    bytes_of (before_first (is_sought CommentEnd) (after_comment_start (marked item)))

-- The bytes from which an item's name is read: those before `<`, otherwise the inside of the last
-- comment.
abbrev pub name_bytes : List ℕ → List ℕ
name_bytes item = if has_bracket item then before_bracket item else last_comment item

-- The bytes from which an item's address is read: those between `<` and `>`, otherwise the whole
-- item.
abbrev pub address_bytes : List ℕ → List ℕ
address_bytes item = if has_bracket item then up_to_bracket (after_bracket item) else item

-- The first item of bytes: its own bytes, its end, and the bytes of the other items.
pub record IsFirstItem (grouped : Bool) (bytes item : List ℕ) (ending : Ending) (rest : List ℕ)
    : Type 0 where
  pub items : items_of grouped bytes
      ≡ (item, ending) ∷ items_of (is_grouped_after grouped ending) rest
  pub shorter : length rest < length bytes
