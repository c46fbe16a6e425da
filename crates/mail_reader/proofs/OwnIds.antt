-- The own id of a text is the first id of its first Message-ID field.
use Rattle.std.proofs.Common.{◌≡◌, ◌≢◌, inl, inr, ℕ, suc, ◌<◌, Bool, true, false, cond, List, [], ◌∷◌, ◌++◌, None, Some, refl, ap, ◌∙◌, arith, subst, codes}
use Rattle.std.specs.Prelude.{option_and_then}
use Rattle.std.specs.List.{Contains}
use Rattle.std.specs.Str.{str_eq_ignore_ascii_case, str_to_ascii_lowercase}
use Rattle.std.proofs.lemmas.Bool.{both_ways, false_from_ne_true}
use Rattle.std.proofs.lemmas.Slice.Eq.{bytes_eq-Decides}
use Rattle.mail_reader.specs.Fields.{FieldText, fields_of, first_named}
use Rattle.mail_reader.specs.Ids.{ids_of, first_of, own_id}
use Rattle.mail_reader.specs.Laws.{IsFirstMessageId, IsOwnId, OwnIdIsFirst}
use Rattle.mail_reader.proofs.PieceLaws.{contains_cases}
use Rattle.mail_reader.proofs.PartLaws.{then_some}

-- Names that are equal in letters of any case.
same_name : (name : List ℕ) → str_eq_ignore_ascii_case name (codes "Message-ID") ≡ true → str_to_ascii_lowercase name ≡ codes "message-id"
same_name name e = (bytes_eq-Decides (str_to_ascii_lowercase name) (codes "message-id")).0 e

is_same_name : (name : List ℕ) → str_to_ascii_lowercase name ≡ codes "message-id" → str_eq_ignore_ascii_case name (codes "Message-ID") ≡ true
is_same_name name e = (bytes_eq-Decides (str_to_ascii_lowercase name) (codes "message-id")).1 e

-- The field that is found is the first one.
first_found : (fields : List FieldText) (field : FieldText) → first_named (codes "Message-ID") fields ≡ Some field → IsFirstMessageId fields field
first_found [] field e = absurd (none e)
  where
    none : None ≡ Some field → ⊥
    none h = cc
first_found (f ∷ fs) field e = step (str_eq_ignore_ascii_case f.name (codes "Message-ID")) refl e (first_found fs field)
  where
    step : (t : Bool) → str_eq_ignore_ascii_case f.name (codes "Message-ID") ≡ t → cond t (Some f) (first_named (codes "Message-ID") fs) ≡ Some field
        → (first_named (codes "Message-ID") fs ≡ Some field → IsFirstMessageId fs field) → IsFirstMessageId (f ∷ fs) field
    step true is h later =
        let same : f ≡ field = cc in
        subst (λ (g : FieldText). IsFirstMessageId (f ∷ fs) g) same
        (record { front = []; later = fs; split = refl; others = λ other c. absurd (let low : c.0 < 0 = c.1 in omega arith); name = same_name f.name is })
    step false is h later =
        let found = later h in
        record {
          front = f ∷ found.front;
          later = found.later;
          split = ap (λ xs. f ∷ xs) found.split;
          others = λ other c. elim (contains_cases f found.front other c) as (λ _. str_to_ascii_lowercase other.name ≢ codes "message-id") [
            | inl same ↦ subst (λ (g : FieldText). str_to_ascii_lowercase g.name ≢ codes "message-id") same
                (λ e. both_ways (str_eq_ignore_ascii_case f.name (codes "Message-ID")) is (is_same_name f.name e))
            | inr among ↦ found.others other among
          ];
          name = found.name;
        }

-- The first field is found.
found_first : (front later : List FieldText) (field : FieldText) → ((other : FieldText) → Contains front other → str_to_ascii_lowercase other.name ≢ codes "message-id")
    → str_to_ascii_lowercase field.name ≡ codes "message-id" → first_named (codes "Message-ID") (front ++ field ∷ later) ≡ Some field
found_first [] later field others name = ap (λ t. cond t (Some field) (first_named (codes "Message-ID") later)) (is_same_name field.name name)
found_first (f ∷ fs) later field others name =
    let other : str_eq_ignore_ascii_case f.name (codes "Message-ID") ≡ false =
    false_from_ne_true (str_eq_ignore_ascii_case f.name (codes "Message-ID")) (λ e. others f (0, omega arith, refl) (same_name f.name e)) in
    ap (λ t. cond t (Some f) (first_named (codes "Message-ID") (fs ++ field ∷ later))) other
    ∙ found_first fs later field (λ g c. others g (suc c.0, omega (arith, c.1), c.2)) name

first_id : (ids : List (List ℕ)) (id : List ℕ) → first_of ids ≡ Some id → (rest : List (List ℕ)) × (ids ≡ id ∷ rest)
first_id [] id e = absurd (none e)
  where
    none : None ≡ Some id → ⊥
    none h = cc
first_id (x ∷ xs) id e = let same : x ≡ id = cc in (xs, ap (λ y. y ∷ xs) same)

is_first : (text id : List ℕ) → own_id text ≡ Some id → IsOwnId text id
unfolding own_id
is_first text id e =
    let found = then_some (first_named (codes "Message-ID") (fields_of text)) (λ (field : FieldText). first_of (ids_of field.value)) id e in
    let ids = first_id (ids_of found.0.value) id found.1.1 in
    record { field = found.0; first = first_found (fields_of text) found.0 found.1.0; later_ids = ids.0; ids = ids.1 }

first_is_own : (text id : List ℕ) → IsOwnId text id → own_id text ≡ Some id
unfolding own_id
first_is_own text id h =
    let named : first_named (codes "Message-ID") (fields_of text) ≡ Some h.field =
    ap (first_named (codes "Message-ID")) h.first.split ∙ found_first h.first.front h.first.later h.field h.first.others h.first.name in
    ap (option_and_then (λ (field : FieldText). first_of (ids_of field.value))) named ∙ ap first_of h.ids

pub own_is_first : OwnIdIsFirst
own_is_first text id = (is_first text id, first_is_own text id)
