use Rattle.std.proofs.Common.{false, arith}
use Rattle.std.proofs.lemmas.List.{length-replicate}
use Rattle.imap_states.proofs.Rests.{none-set}
use Rattle.imap_states.proofs.patterns.after_one.Goals as goal

pub loop-index-init : goal.loop-index-init
loop-index-init c = record {
  room = length-replicate 86 false;
  here = λ i below. absurd (omega (arith, below));
  past = λ i _. none-set 86 i;
}
