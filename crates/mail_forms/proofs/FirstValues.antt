-- The flat value of the first field with a name.
use Rattle.std.proofs.Common.{◌≡◌, ℕ, List, [], Option, Some, None, refl, sym, ap}
use Rattle.std.specs.Prelude.{option_map}
use Rattle.std.proofs.lemmas.Option.{same_Some, none-some}
use Rattle.mail_reader.specs.Fields.{FieldText, fields_of, first_named}
use Rattle.mail_reader.specs.Values.{flat_of}
use Rattle.mail_forms.specs.NamedValues.{flat_value, flat_first}

some_flat : (field : Option FieldText) (value : List ℕ) → Some value ≡ option_map (λ (f : FieldText). f.value) field → flat_of value ≡ flat_value field
some_flat None value e = absurd (none-some _ (sym e))
some_flat (Some f) value e = ap flat_of (same_Some _ _ e)

none_flat : (field : Option FieldText) → None ≡ option_map (λ (f : FieldText). f.value) field → [] ≡ flat_value field
none_flat None e = refl
none_flat (Some f) e = absurd (none-some _ e)

-- The flat value, where there is such a field.
pub flat_first-some : (name text value : List ℕ) → Some value ≡ option_map (λ (f : FieldText). f.value) (first_named name (fields_of text)) → flat_of value ≡ flat_first name text
unfolding flat_first
flat_first-some name text value e = some_flat (first_named name (fields_of text)) value e

-- Nothing, where there is none.
pub flat_first-none : (name text : List ℕ) → None ≡ option_map (λ (f : FieldText). f.value) (first_named name (fields_of text)) → [] ≡ flat_first name text
unfolding flat_first
flat_first-none name text e = none_flat (first_named name (fields_of text)) e
