-- The lines of fields.
use Rattle.std.proofs.Common.{◌≡◌, ℕ, List, [], ◌++◌, Option, Some, None, refl, sym, ap, ◌∙◌, append_assoc, append-nil}
use Rattle.std.specs.Prelude.{option_map, codes}
use Rattle.std.specs.List.{flat_map}
use Rattle.std.proofs.lemmas.Option.{same_Some, none-some}
use Rattle.mail_reader.specs.Fields.{FieldText, fields_of, first_named}
use Rattle.mail_reader.specs.Values.{flat_of}
use Rattle.mime_words.specs.Decoding.{decoded}
use Rattle.web_text.specs.Escapes.{escaped}
use Rattle.html_pages.specs.Lines.{field_line, header_line}
use Rattle.html_pages.specs.Pages.{shown_fields}

some_line : (name : List ℕ) (field : Option FieldText) (value : List ℕ) → Some value ≡ option_map (λ (f : FieldText). f.value) field
    → name ++ codes ": " ++ escaped (decoded (flat_of value)) ++ codes "\n" ≡ field_line name field
some_line name None value e = absurd (none-some _ (sym e))
some_line name (Some f) value e = ap (λ v. name ++ codes ": " ++ escaped (decoded (flat_of v)) ++ codes "\n") (same_Some _ _ e)

none_line : (name : List ℕ) (field : Option FieldText) → None ≡ option_map (λ (f : FieldText). f.value) field → [] ≡ field_line name field
none_line name None e = refl
none_line name (Some f) e = absurd (none-some _ e)

-- The line of a text's first field with a name, by its value.
pub header_line-some : (text name value : List ℕ) → Some value ≡ option_map (λ (f : FieldText). f.value) (first_named name (fields_of text))
    → name ++ codes ": " ++ escaped (decoded (flat_of value)) ++ codes "\n" ≡ header_line text name
unfolding header_line
header_line-some text name value e = some_line name (first_named name (fields_of text)) value e

-- There is no line without such a field.
pub header_line-none : (text name : List ℕ) → None ≡ option_map (λ (f : FieldText). f.value) (first_named name (fields_of text)) → [] ≡ header_line text name
unfolding header_line
header_line-none text name e = none_line name (first_named name (fields_of text)) e

-- A line after what is there.
pub value_line : (first a b c d : List ℕ) → (((first ++ a) ++ b) ++ c) ++ d ≡ first ++ (((a ++ b) ++ c) ++ d)
value_line first a b c d = simp append_assoc

joined : (first a b c d e f : List ℕ) → first ++ (((((a ++ b) ++ c) ++ d) ++ e) ++ f) ≡ first ++ (a ++ (b ++ (c ++ (d ++ (e ++ (f ++ []))))))
joined first a b c d e f = simp (append_assoc, append-nil)

-- The lines of the fields that are shown, one after another.
pub six_lines : (text first new : List ℕ)
    → new ≡ first ++ (((((header_line text (codes "From") ++ header_line text (codes "To")) ++ header_line text (codes "Cc")) ++ header_line text (codes "Subject")) ++ header_line text (codes "Date")) ++ header_line text (codes "Message-ID"))
    → new ≡ first ++ flat_map (header_line text) shown_fields
six_lines text first new e =
    e ∙ joined first (header_line text (codes "From")) (header_line text (codes "To")) (header_line text (codes "Cc")) (header_line text (codes "Subject")) (header_line text (codes "Date")) (header_line text (codes "Message-ID"))
