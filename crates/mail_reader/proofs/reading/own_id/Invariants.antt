use Rattle.std.proofs.Common.{◌≡◌, codes}
use Rattle.mail_reader.specs.Fields.{fields_of, first_named}
use Rattle.mail_reader.proofs.reading.own_id.Given as goal

abbrev pub invariant-loop-field : goal.invariant-loop-field
invariant-loop-field l = first_named (codes "Message-ID") l.field-iterator ≡ first_named (codes "Message-ID") (fields_of l.text)
