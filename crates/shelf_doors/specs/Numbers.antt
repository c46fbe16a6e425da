-- The numbers of live messages.
use Rattle.std.specs.Prelude.{◌+◌, ◌-◌, ℕ, zero, suc, Bool, List, [], ◌∷◌, Option, Some, None, is_some}
use Rattle.std.specs.List.{filter}
use Rattle.arch_model.specs.Archives.{Entry, text_of}

-- So many numbers, from the first one on.
abbrev pub numbers_from : ℕ → ℕ → List ℕ
numbers_from first zero = []
numbers_from first (suc count) = first ∷ numbers_from (first + 1) count

-- The number is that of one of these live messages.
abbrev pub is_live : List Entry → ℕ → Bool
is_live entries n = is_some (text_of entries n)

-- The numbers of these live messages from `first` to `last`, in order.
unfoldable pub live_in : List Entry → ℕ → ℕ → List ℕ
live_in entries first last = filter (is_live entries) (numbers_from first (last + 1 - first))

-- The first of some numbers, if there is one.
abbrev pub first_of : List ℕ → Option ℕ
first_of [] = None
first_of (n ∷ ns) = Some n

-- The last of some numbers, if there is one.
abbrev pub last_of : List ℕ → Option ℕ
last_of [] = None
last_of (n ∷ []) = Some n
last_of (n ∷ m ∷ ns) = last_of (m ∷ ns)

-- The greatest number of 32 bits, so that none is left out.
abbrev pub last_number : ℕ
last_number = 4294967295

-- The least live number from `first` on.
abbrev pub least_live : List Entry → ℕ → Option ℕ
least_live entries first = first_of (live_in entries first last_number)

-- The greatest live number below `n`.
abbrev pub greatest_below : List Entry → ℕ → Option ℕ
greatest_below entries zero = None
greatest_below entries (suc n) = last_of (live_in entries 0 n)
