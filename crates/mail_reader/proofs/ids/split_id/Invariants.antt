use Rattle.std.proofs.Common.{◌≡◌, length}
use Rattle.mail_reader.specs.Ids.{ids_of}
use Rattle.mail_reader.proofs.ids.split_id.Given as goal

abbrev pub invariant-loop-piece : goal.invariant-loop-piece
invariant-loop-piece l = ids_of l.rest ≡ ids_of l.value

abbrev pub decreases-loop-piece : goal.decreases-loop-piece
decreases-loop-piece l = length l.rest
