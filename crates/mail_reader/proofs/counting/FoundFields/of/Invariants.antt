use Rattle.mail_reader.specs.Fields.{fields_of}
use Rattle.mail_reader.specs.Counting.{AreFound}
use Rattle.mail_reader.proofs.counting.FoundFields.of.Given as goal

abbrev pub invariant-loop-field : goal.invariant-loop-field
invariant-loop-field l = AreFound l.found (fields_of l.text) l.field-iterator
