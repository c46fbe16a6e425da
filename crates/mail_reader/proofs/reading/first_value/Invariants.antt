use Rattle.std.proofs.Common.{◌≡◌}
use Rattle.mail_reader.specs.Fields.{fields_of, first_named}
use Rattle.mail_reader.proofs.reading.first_value.Given as goal

abbrev pub invariant-loop-field : goal.invariant-loop-field
invariant-loop-field l = first_named l.name l.field-iterator ≡ first_named l.name (fields_of l.text)
