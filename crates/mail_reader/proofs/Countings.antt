-- What is found of the fields that count, field by field.
use Rattle.std.proofs.Common.{◌≡◌, ℕ, List, [], ◌∷◌, ◌++◌, true, false, refl, sym, ap, subst, ◌∙◌, append-nil}
use Rattle.std.specs.Borrow.{Bor}
use Rattle.std.specs.Str.{str_eq_ignore_ascii_case}
use Rattle.mail_reader.specs.Fields.{FieldText}
use Rattle.mail_reader.specs.Content.{counted, counted_field}
use Rattle.mail_reader.specs.Counting.{IsFoundField, AreFound}
use Rattle.mail_reader.specs.declared.counting.FoundFields.{FoundFields}
use Rattle.mail_reader.specs.declared.counting.Found.{Found}
use Rattle.mail_reader.specs.declared.counting.Found.TheVariants.{Nothing, Value, Several}

-- A field with the name counts before the others, and one with another name doesn't.
taken : (name : List ℕ) (field : FieldText) (rest : List FieldText) → str_eq_ignore_ascii_case field.name name ≡ true → counted name (field ∷ rest) ≡ counted_field name field.value ++ counted name rest
taken name field rest same = rw same refl

passed : (name : List ℕ) (field : FieldText) (rest : List FieldText) → str_eq_ignore_ascii_case field.name name ≡ false → counted name (field ∷ rest) ≡ counted name rest
passed name field rest other = rw other refl

-- A field with another name changes nothing.
pub found-passed : (name : List ℕ) (found : Found) (field : FieldText) (fields rest : List FieldText) → str_eq_ignore_ascii_case field.name name ≡ false
    → IsFoundField name found fields (field ∷ rest) → IsFoundField name found fields rest
found-passed name Nothing field fields rest other h = h ∙ passed name field rest other
found-passed name (Value value) field fields rest other h = h ∙ ap (λ (l : List ℕ). counted_field name value.now ++ l) (passed name field rest other)
found-passed name Several field fields rest other h = tt

-- The first field with the name.
pub found-first : (name : List ℕ) (found : Found) (value : Bor (List ℕ)) (field : FieldText) (fields rest : List FieldText) → found ≡ Nothing → value.now ≡ field.value
    → str_eq_ignore_ascii_case field.name name ≡ true → IsFoundField name found fields (field ∷ rest) → IsFoundField name (Value value) fields rest
found-first name found value field fields rest none is same h =
    let before : counted name fields ≡ counted name (field ∷ rest) = subst (λ (f : Found). IsFoundField name f fields (field ∷ rest)) none h in
    before ∙ taken name field rest same ∙ ap (λ (v : List ℕ). counted_field name v ++ counted name rest) (sym is)

-- What is found of all fields is what counts of them.
pub all-nothing : (name : List ℕ) (found : Found) (fields : List FieldText) → found ≡ Nothing → IsFoundField name found fields [] → [] ≡ counted name fields
all-nothing name found fields none h = sym (subst (λ (f : Found). IsFoundField name f fields []) none h)

pub all-value : (name : List ℕ) (found : Found) (value : Bor (List ℕ)) (fields : List FieldText) → found ≡ Value value → IsFoundField name found fields [] → counted_field name value.now ≡ counted name fields
all-value name found value fields one h =
    let all : counted name fields ≡ counted_field name value.now ++ [] = subst (λ (f : Found). IsFoundField name f fields []) one h in
    sym (append-nil (counted_field name value.now)) ∙ sym all

-- The same of each name.
pub are-found-at : (found : FoundFields) (fields rest later : List FieldText) → rest ≡ later → AreFound found fields rest → AreFound found fields later
are-found-at found fields rest later same h = let P : List FieldText → Type 0 = λ left. AreFound found fields left in subst P same h
