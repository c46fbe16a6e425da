use Rattle.std.proofs.Common.{◌≡◌, ◌++◌}
use Rattle.mail_reader.specs.Fields.{fields_of}
use Rattle.mail_forms.specs.NamedValues.{values_of, listed, continued}
use Rattle.mail_forms.proofs.named_values.listed_values.Given as goal

abbrev pub invariant-loop-field : goal.invariant-loop-field
invariant-loop-field l = l.made ++ continued l.is_first (values_of l.name l.field-iterator) ≡ listed (values_of l.name (fields_of l.text))
