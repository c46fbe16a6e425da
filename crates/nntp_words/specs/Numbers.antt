-- Numbers, ranges and ids of articles (RFC 3977, sections 6.1.2, 9.7 and 9.8).
use Rattle.std.specs.Prelude.{ℕ, ◌-◌, Bool, ◌&&◌, ◌||◌, not, ◌==◌, nat_lt, nat_le, List, [], ◌∷◌, length, take, drop, slice_range, slice_index, Option, Some, None, if◌then◌else◌}
use Rattle.std.specs.List.{prefix_len, list_all}
use Rattle.arch_base.specs.Decimals.{decimal_of}
use Rattle.mail_reader.specs.Ids.{is_id_byte}
use Rattle.nntp_words.specs.declared.numbers.Range.{Range}

-- The greatest number that an article may have.
abbrev pub greatest : ℕ
greatest = 2147483647

-- The number, if an article may have it.
abbrev pub up_to_greatest : Option ℕ → Option ℕ
up_to_greatest None = None
up_to_greatest (Some n) = if nat_le n greatest then Some n else None

-- The byte is a zero.
abbrev pub is_zero : ℕ → Bool
is_zero b = b == 48

-- The word without the zeros that come first.
abbrev pub without_zeros : List ℕ → List ℕ
without_zeros word = drop (prefix_len is_zero word) word

-- The number that digits spell which don't start with a zero. No digits spell 0.
abbrev pub number_in : List ℕ → Option ℕ
number_in digits = if length digits == 0 then Some 0 else up_to_greatest (decimal_of digits)

-- The number that a word of 1 to 16 digits spells.
unfoldable pub number_of : List ℕ → Option ℕ
number_of word =
    if length word == 0 || nat_lt 16 (length word) then None else number_in (without_zeros word)

-- The range from a number to a last one, if that is there.
abbrev pub range_to : ℕ → Option ℕ → Option Range
range_to first None = None
range_to first (Some last) = Some (record { first = first; last = last })

-- The range from a number on, if that is there, with what follows the number.
abbrev pub range_from : Option ℕ → List ℕ → Option Range
range_from None rest = None
range_from (Some first) [] = range_to first (Some first)
range_from (Some first) (dash ∷ []) = range_to first (Some greatest)
range_from (Some first) (dash ∷ b ∷ bs) = range_to first (number_of (b ∷ bs))

-- The byte isn't the dash of a range.
abbrev pub is_before_dash : ℕ → Bool
is_before_dash b = not (b == 45)

-- The range that a word spells: `N`, `N-` or `N-M`.
unfoldable pub range_of : List ℕ → Option Range
range_of word =
    range_from (number_of (take (prefix_len is_before_dash word) word))
    (drop (prefix_len is_before_dash word) word)

-- The bytes are those of an id between its brackets.
abbrev pub is_inside_id : List ℕ → Bool
is_inside_id inside =
    not (length inside == 0) && nat_le (length inside) 248 && list_all is_id_byte inside

-- The word is an id in its brackets.
unfoldable pub is_id : List ℕ → Bool
is_id word =
    nat_le 2 (length word) && slice_index word 0 == 60 && slice_index word (length word - 1) == 62
    && is_inside_id (slice_range word 1 (length word - 1))
