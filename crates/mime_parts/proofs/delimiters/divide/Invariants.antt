use Rattle.std.proofs.Common.{◌≡◌, ◌≤◌, ◌+◌, ◌++◌, length}
use Rattle.mail_reader.specs.Lines.{lines_of}
use Rattle.mime_parts.specs.Delimiters.{cuts_from}
use Rattle.mime_parts.proofs.Dividing.{begun_count, all_from}
use Rattle.mime_parts.proofs.delimiters.divide.Given as goal

abbrev pub invariant-loop-rest : goal.invariant-loop-rest
invariant-loop-rest l = record {
  room : length l.spans + begun_count l.begun ≤ l.room;
  offset : l.at + length l.rest ≡ l.fn.start + length l.body;
  spans : l.spans ++ all_from l.boundary l.begun l.at (lines_of l.rest) ≡ (cuts_from l.boundary l.fn.start (lines_of l.body)).parts;
}

abbrev pub decreases-loop-rest : goal.decreases-loop-rest
decreases-loop-rest l = length l.rest
