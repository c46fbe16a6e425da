use Rattle.std.proofs.Common.{◌≡◌}
use Rattle.std.specs.List.{fold}
use Rattle.mail_reader.specs.Fields.{fields_of}
use Rattle.mail_reader.specs.References.{put_new, ids_in}
use Rattle.mail_reader.proofs.references.push_named.Given as goal

abbrev pub invariant-loop-field : goal.invariant-loop-field
invariant-loop-field l = fold put_new l.found (ids_in l.name l.field-iterator) ≡ fold put_new l.fn.found (ids_in l.name (fields_of l.text))
