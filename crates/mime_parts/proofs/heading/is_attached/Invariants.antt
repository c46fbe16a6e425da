use Rattle.std.proofs.Common.{◌≡◌}
use Rattle.std.specs.List.{list_any}
use Rattle.mail_reader.specs.Fields.{fields_of}
use Rattle.mime_parts.specs.Headings.{is_attachment}
use Rattle.mime_parts.proofs.heading.is_attached.Given as goal

abbrev pub invariant-loop-field : goal.invariant-loop-field
invariant-loop-field l = list_any is_attachment l.field-iterator ≡ list_any is_attachment (fields_of l.bytes)
