-- Private: what is found of the fields that count for the content id, in one pass over a header.
use Rattle.std.specs.Prelude.{◌≡◌, ℕ, List, ◌++◌, codes}
use Rattle.mail_reader.specs.Fields.{FieldText}
use Rattle.mail_reader.specs.Content.{counted, counted_field}
use Rattle.mail_reader.specs.declared.counting.FoundFields.{FoundFields}
use Rattle.mail_reader.specs.declared.counting.Found.{Found}
use Rattle.mail_reader.specs.declared.counting.Found.TheVariants.{Nothing, Value, Several}

-- Of these fields the ones with a name count as what is found of them, and then the ones of the rest.
-- Where several are found, nothing is said.
abbrev pub IsFoundField : List ℕ → Found → List FieldText → List FieldText → Type 0
IsFoundField name Nothing fields rest = counted name fields ≡ counted name rest
IsFoundField name (Value value) fields rest =
    counted name fields ≡ counted_field name value.now ++ counted name rest
IsFoundField name Several fields rest = Unit {0}

-- The same of each name that counts.
pub record AreFound (found : FoundFields) (fields rest : List FieldText) : Type 0 where
  pub subject : IsFoundField (codes "Subject") found.subject fields rest
  pub authors : IsFoundField (codes "From") found.authors fields rest
  pub date : IsFoundField (codes "Date") found.date fields rest
  pub references : IsFoundField (codes "References") found.references fields rest
  pub replied : IsFoundField (codes "In-Reply-To") found.replied fields rest
  pub recipients : IsFoundField (codes "To") found.recipients fields rest
  pub copied : IsFoundField (codes "Cc") found.copied fields rest
