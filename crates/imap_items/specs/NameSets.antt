-- Private: sets of names, by which the fields of a header are picked.
use Rattle.std.specs.Prelude.{◌≡◌, ℕ, Bool, true, false, not, List, [], if◌then◌else◌}
use Rattle.std.specs.BTreeSet.{BTreeSet, contains}
use Rattle.std.specs.Cmp.Lexicographic.{slice_cmp}
use Rattle.std.specs.Global.{Vec}
use Rattle.std.specs.List.{list_any}
use Rattle.std.specs.Ordering.{nat_cmp}
use Rattle.std.specs.Str.{bytes_eq, str_eq_ignore_ascii_case, str_to_ascii_lowercase}
use Rattle.mail_reader.specs.Fields.{FieldText}
use Rattle.imap_items.specs.Sections.{is_asked}

-- The name is one of these, in any case.
abbrev pub is_one_of : List (List ℕ) → List ℕ → Bool
is_one_of names other = list_any (λ name. str_eq_ignore_ascii_case name other) names

-- The field is picked by these names: if it has one of them, or if it has none.
abbrev pub is_picked : List (List ℕ) → Bool → FieldText → Bool
is_picked names true field = is_asked names field
is_picked names false field = not (is_asked names field)

-- The bytes of a field that is picked, or nothing.
abbrev pub picked : List (List ℕ) → Bool → FieldText → List ℕ
picked names wanted field = if is_picked names wanted field then field.whole else []

-- The set has just these names, in lower case.
abbrev pub IsNameSet : List (List ℕ) → BTreeSet (Vec ℕ) → Type 0
IsNameSet names set = (q : Vec ℕ) → contains (λ (a b : Vec ℕ).
    slice_cmp nat_cmp a.items b.items) set q
    ≡ list_any (λ name. bytes_eq (str_to_ascii_lowercase name) q.items) names
