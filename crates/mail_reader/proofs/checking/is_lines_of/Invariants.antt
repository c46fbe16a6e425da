use Rattle.std.proofs.Common.{length}
use Rattle.std.specs.List.{concat}
use Rattle.mail_reader.specs.Stored.{clean_lines}
use Rattle.mail_reader.proofs.PieceEnds.{Ahead}
use Rattle.mail_reader.proofs.checking.is_lines_of.Given as goal

abbrev pub invariant-loop-rest : goal.invariant-loop-rest
invariant-loop-rest l = Ahead l.text (concat (clean_lines l.bytes)) l.left (concat (clean_lines l.rest))

abbrev pub decreases-loop-rest : goal.decreases-loop-rest
decreases-loop-rest l = length l.rest
