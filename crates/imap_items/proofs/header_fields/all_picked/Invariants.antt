use Rattle.std.proofs.Common.{◌≡◌, ◌++◌}
use Rattle.std.specs.List.{filter}
use Rattle.mail_reader.specs.Fields.{fields_of}
use Rattle.mail_reader.specs.Laws.{wholes}
use Rattle.imap_items.specs.NameSets.{is_picked}
use Rattle.imap_items.proofs.header_fields.all_picked.Given as goal

abbrev pub invariant-loop-field : goal.invariant-loop-field
invariant-loop-field l = l.bytes ++ wholes (filter (is_picked l.fn.names l.wanted) l.field-iterator) ≡ wholes (filter (is_picked l.fn.names l.wanted) (fields_of l.message))
