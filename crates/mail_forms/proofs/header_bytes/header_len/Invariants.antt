use Rattle.std.proofs.Common.{◌≡◌, ◌≤◌, ◌+◌, length}
use Rattle.mail_reader.specs.Fields.{fields_of}
use Rattle.mail_reader.specs.Laws.{wholes}
use Rattle.mail_forms.proofs.header_bytes.header_len.Given as goal

abbrev pub invariant-loop-field : goal.invariant-loop-field
invariant-loop-field l = record {
  len : l.len + length (wholes l.field-iterator) ≡ length (wholes (fields_of l.text));
  within : length (wholes (fields_of l.text)) ≤ length l.text;
}
