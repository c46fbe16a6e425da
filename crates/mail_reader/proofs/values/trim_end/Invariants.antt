use Rattle.std.proofs.Common.{◌≡◌, length}
use Rattle.mail_reader.specs.Stored.{without_end}
use Rattle.mail_reader.specs.Values.{unfolded}
use Rattle.mail_reader.proofs.values.trim_end.Given as goal

abbrev pub invariant-loop-rest : goal.invariant-loop-rest
invariant-loop-rest l = without_end 32 (unfolded l.rest) ≡ without_end 32 (unfolded l.value)

abbrev pub decreases-loop-rest : goal.decreases-loop-rest
decreases-loop-rest l = length l.rest
