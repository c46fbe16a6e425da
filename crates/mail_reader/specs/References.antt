-- The messages that a message answers (RFC 5322, section 3.6.4).
use Rattle.std.specs.BTreeSet.{BTreeSet, contains}
use Rattle.std.specs.Cmp.Lexicographic.{slice_cmp}
use Rattle.std.specs.Ordering.{nat_cmp}
use Rattle.std.specs.Borrow.{Bor}
use Rattle.std.specs.Prelude.{◌≡◌, ℕ, ◌-◌, List, [], ◌∷◌, ◌++◌, if◌then◌else◌, codes, length, drop, map}
use Rattle.std.specs.List.{fold, list_any}
use Rattle.std.specs.Str.{str_eq_ignore_ascii_case, bytes_eq}
use Rattle.mail_reader.specs.Fields.{FieldText, fields_of}
use Rattle.mail_reader.specs.Ids.{ids_of}

-- The ids in the fields with a name, in order.
abbrev pub ids_in : List ℕ → List FieldText → List (List ℕ)
ids_in name [] = []
ids_in name (field ∷ fields) = if str_eq_ignore_ascii_case field.name name
    then ids_of field.value ++ ids_in name fields else ids_in name fields

-- The ids with one more at the end, unless it is there already.
abbrev pub put_new : List (List ℕ) → List ℕ → List (List ℕ)
put_new ids id = if list_any (λ seen. bytes_eq seen id) ids then ids else ids ++ id ∷ []

-- The different ids, in the order in which each comes first.
abbrev pub distinct : List (List ℕ) → List (List ℕ)
distinct ids = fold put_new [] ids

-- The last `n` elements of a list, or all if there are fewer.
abbrev pub last : ℕ → List (List ℕ) → List (List ℕ)
last n ids = drop (length ids - n) ids

-- The ids of every References field and then of every In-Reply-To field. Of equal ids only the
-- first counts, and of these the last 200 remain.
unfoldable pub refs_of : List ℕ → List (List ℕ)
refs_of text = last 200 (distinct (ids_in (codes "References") (fields_of text)
    ++ ids_in (codes "In-Reply-To") (fields_of text)))

-- The bytes of slices.
abbrev pub shown_all : List (Bor (List ℕ)) → List (List ℕ)
shown_all slices = map (λ (slice : Bor (List ℕ)). slice.now) slices

-- The set has the ids of the list.
abbrev pub HasSeen : List (Bor (List ℕ)) → BTreeSet (Bor (List ℕ)) → Type 0
HasSeen ids seen = (q : Bor (List ℕ)) → contains (λ (a b : Bor (List ℕ)).
    slice_cmp nat_cmp a.now b.now) seen q ≡ list_any (λ s. bytes_eq s q.now) (shown_all ids)
