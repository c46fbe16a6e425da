use Rattle.std.proofs.Common.{◌≡◌, ◌++◌, length}
use Rattle.std.specs.List.{concat}
use Rattle.mail_reader.specs.Lines.{after_header}
use Rattle.mail_reader.specs.Stored.{clean_lines, kept_fields}
use Rattle.mail_reader.proofs.KeptLines.{kept_from, after_from}
use Rattle.mail_reader.proofs.storing.keep_fields.Given as goal

abbrev pub invariant-loop-place : goal.invariant-loop-place
invariant-loop-place l = record {
  kept : l.text ++ concat (kept_from l.place (clean_lines l.rest)) ≡ l.fn.text ++ concat (kept_fields (clean_lines l.bytes));
  after : after_from l.place (clean_lines l.rest) ≡ after_header (clean_lines l.bytes);
}

abbrev pub decreases-loop-place : goal.decreases-loop-place
decreases-loop-place l = length l.rest
