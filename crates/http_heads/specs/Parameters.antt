-- The parameters of a target (URL Standard, section 5.1).
use Rattle.std.specs.Prelude.{ℕ, ◌+◌, ◌==◌, not, Bool, List, [], ◌∷◌, take, drop, Option, Some, None, if◌then◌else◌}
use Rattle.std.specs.List.{prefix_len}
use Rattle.std.specs.Str.{bytes_eq}
use Rattle.std.specs.Str.Lossy.{utf8_lossy}
use Rattle.form_urlencoded.specs.Form.{raw_pairs, decode}
use Rattle.arch_base.specs.Decimals.{decimal_of}

-- The byte isn't the mark before a target's parameters.
abbrev pub is_of_path : ℕ → Bool
is_of_path b = not (b == 63)

-- The path of a target: what stands before the first mark.
abbrev pub path_of : List ℕ → List ℕ
path_of target = take (prefix_len is_of_path target) target

-- The parameters of a target: what stands after that mark.
abbrev pub query_of : List ℕ → List ℕ
query_of target = drop (prefix_len is_of_path target + 1) target

-- The text that an encoded name or value stands for.
abbrev pub form_text : List ℕ → List ℕ
form_text bytes = utf8_lossy (decode bytes)

-- The value of the first parameter with a name.
abbrev pub first_value : List ℕ → List (List ℕ × List ℕ) → Option (List ℕ)
first_value name [] = None
first_value name (pair ∷ pairs) =
    if bytes_eq (form_text pair.0) name then Some (form_text pair.1) else first_value name pairs

-- The first parameter of a query with a name.
unfoldable pub parameter : List ℕ → List ℕ → Option (List ℕ)
parameter name query = first_value name (raw_pairs query)

-- A number, or 0 without one.
abbrev pub count_in : Option ℕ → ℕ
count_in None = 0
count_in (Some n) = n

-- How many rows are skipped: the number that a value spells, or 0.
abbrev pub skipped : Option (List ℕ) → ℕ
skipped None = 0
skipped (Some value) = count_in (decimal_of value)
