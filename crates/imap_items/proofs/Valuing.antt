-- Values of fields, decoded and in lower case.
use Rattle.std.proofs.Common.{◌≡◌, ℕ, Bool, true, false, cond, ◌||◌, ◌&&◌, List, [], ◌∷◌, map, refl, ap}
use Rattle.std.specs.List.{list_any}
use Rattle.std.specs.Str.{str_eq_ignore_ascii_case, str_to_ascii_lowercase}
use Rattle.mail_reader.specs.Fields.{FieldText, fields_of}
use Rattle.mail_reader.specs.Values.{flat_of}
use Rattle.mail_forms.specs.NamedValues.{values_of}
use Rattle.mime_words.specs.Decoding.{decoded}
use Rattle.imap_items.specs.Searching.{has_piece, is_found}
use Rattle.imap_items.specs.Keys.{is_found_in, in_field}
use Rattle.imap_items.specs.Kept.{lower_decoded, lower_values}

step : (same : Bool) (name piece : List ℕ) (field : FieldText) (fields : List FieldText)
    → list_any (has_piece (str_to_ascii_lowercase piece)) (map lower_decoded (values_of name fields)) ≡ list_any (is_found_in name piece) fields
    → list_any (has_piece (str_to_ascii_lowercase piece)) (map lower_decoded (cond same (flat_of field.value ∷ values_of name fields) (values_of name fields)))
    ≡ ((same && is_found piece (decoded (flat_of field.value))) || list_any (is_found_in name piece) fields)
step true name piece field fields h = ap (λ t. is_found piece (decoded (flat_of field.value)) || t) h
step false name piece field fields h = h

in_fields : (name piece : List ℕ) (fields : List FieldText)
    → list_any (has_piece (str_to_ascii_lowercase piece)) (map lower_decoded (values_of name fields)) ≡ list_any (is_found_in name piece) fields
in_fields name piece [] = refl
in_fields name piece (field ∷ fields) = step (str_eq_ignore_ascii_case field.name name) name piece field fields (in_fields name piece fields)

-- A text is in one of the kept values where it is in one of the fields.
pub values-field : (name piece text : List ℕ) → list_any (has_piece (str_to_ascii_lowercase piece)) (lower_values name text) ≡ in_field name piece text
values-field name piece text = in_fields name piece (fields_of text)
