use Rattle.arch_judge.proofs.Choosing.{PassedIn, TakenBelow}
use Rattle.arch_judge.proofs.judging.choose_made.Given as goal

abbrev pub invariant-loop-tried : goal.invariant-loop-tried
invariant-loop-tried l = PassedIn l.config l.index l.text l.tried × TakenBelow l.index l.config.name l.text l.tried
