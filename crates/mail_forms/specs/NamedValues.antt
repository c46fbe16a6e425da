-- The flat values of the fields with a name (RFC 5322, sections 1.2.2 and 2.2.3).
use Rattle.std.specs.Prelude.{ℕ, Bool, true, false, List, [], ◌∷◌, ◌++◌, codes, Option, Some, None, if◌then◌else◌}
use Rattle.std.specs.List.{flat_map}
use Rattle.std.specs.Str.{str_eq_ignore_ascii_case}
use Rattle.mail_reader.specs.Fields.{FieldText, fields_of, first_named}
use Rattle.mail_reader.specs.Values.{flat_of}

-- The flat value of a field. Without a field it is empty.
abbrev pub flat_value : Option FieldText → List ℕ
flat_value None = []
flat_value (Some field) = flat_of field.value

-- The flat value of a text's first field with a name.
unfoldable pub flat_first : List ℕ → List ℕ → List ℕ
flat_first name text = flat_value (first_named name (fields_of text))

-- The flat values of the fields with a name, in order.
abbrev pub values_of : List ℕ → List FieldText → List (List ℕ)
values_of name [] = []
values_of name (field ∷ fields) =
    if str_eq_ignore_ascii_case field.name name then flat_of field.value ∷ values_of name fields
    else values_of name fields

-- A value after a comma and a space.
abbrev pub after_comma : List ℕ → List ℕ
after_comma value = codes ", " ++ value

-- Values as one list, with a comma and a space between them.
abbrev pub listed : List (List ℕ) → List ℕ
listed [] = []
listed (value ∷ values) = value ++ flat_map after_comma values

-- A value of a list: the first stands alone, and any other after a comma and a space.
abbrev pub separated : Bool → List ℕ → List ℕ
separated true value = value
separated false value = after_comma value

-- The values of a list that are still to come, from the first on or after it.
abbrev pub continued : Bool → List (List ℕ) → List ℕ
continued true values = listed values
continued false values = flat_map after_comma values
