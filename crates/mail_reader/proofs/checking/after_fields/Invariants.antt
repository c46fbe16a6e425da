use Rattle.std.proofs.Common.{◌≡◌, length}
use Rattle.std.specs.List.{concat}
use Rattle.mail_reader.specs.Lines.{after_header}
use Rattle.mail_reader.specs.Stored.{clean_lines, kept_fields}
use Rattle.mail_reader.proofs.KeptLines.{kept_from, after_from}
use Rattle.mail_reader.proofs.PieceEnds.{Ahead}
use Rattle.mail_reader.proofs.checking.after_fields.Given as goal

abbrev pub invariant-loop-place : goal.invariant-loop-place
invariant-loop-place l = record {
  ahead : Ahead l.text (concat (kept_fields (clean_lines l.bytes))) l.left (concat (kept_from l.place (clean_lines l.rest)));
  after : after_from l.place (clean_lines l.rest) ≡ after_header (clean_lines l.bytes);
}

abbrev pub decreases-loop-place : goal.decreases-loop-place
decreases-loop-place l = length l.rest
