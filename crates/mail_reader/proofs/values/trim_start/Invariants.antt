use Rattle.std.proofs.Common.{◌≡◌, length}
use Rattle.mail_reader.specs.Values.{unfolded, without_front}
use Rattle.mail_reader.proofs.values.trim_start.Given as goal

abbrev pub invariant-loop-rest : goal.invariant-loop-rest
invariant-loop-rest l = without_front (unfolded l.rest) ≡ without_front (unfolded l.value)

abbrev pub decreases-loop-rest : goal.decreases-loop-rest
decreases-loop-rest l = length l.rest
