-- Maps of lists of numbers. A list that isn't there is an empty one.
use Rattle.std.specs.Prelude.{◌≡◌, ◌==◌, ℕ, List, [], Option, Some, None, if◌then◌else◌}
use Rattle.std.specs.Str.{bytes_eq}
use Rattle.std.specs.Ordering.{nat_cmp}
use Rattle.std.specs.Cmp.Lexicographic.{slice_cmp}
use Rattle.std.specs.BTreeMap.{BTreeMap, get, get_by}
use Rattle.std.specs.Global.{Vec}

-- The items of a list that may be there.
abbrev pub items_in : Option (Vec ℕ) → List ℕ
items_in None = []
items_in (Some list) = list.items

-- The list of a number.
abbrev pub list_at : BTreeMap ℕ (Vec ℕ) → ℕ → List ℕ
list_at lists n = items_in (get nat_cmp lists n)

-- The list of a key.
abbrev pub list_at_key : BTreeMap (Vec ℕ) (Vec ℕ) → List ℕ → List ℕ
list_at_key lists key = items_in (get_by (λ (k : Vec ℕ). slice_cmp nat_cmp key k.items) lists)

-- A number got a list, and the other lists stayed.
abbrev pub PutsList : (ℕ → List ℕ) → (ℕ → List ℕ) → ℕ → List ℕ → Type 0
PutsList old new n list = (m : ℕ) → new m ≡ (if n == m then list else old m)

-- A key got a list, and the other lists stayed.
abbrev pub PutsKey : (List ℕ → List ℕ) → (List ℕ → List ℕ) → List ℕ → List ℕ → Type 0
PutsKey old new key list = (k : List ℕ) → new k ≡ (if bytes_eq k key then list else old k)
