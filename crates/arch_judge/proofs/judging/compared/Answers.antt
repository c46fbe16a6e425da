use Rattle.arch_judge.proofs.Judged.{same-comes, equal-text}
use Rattle.arch_judge.proofs.judging.compared.Goals as goal

pub returns-clause-judged : goal.returns-clause-judged
returns-clause-judged c =
    λ a bytes config_is next_is is. c.judge_room.ensures.judged a bytes config_is next_is
    (same-comes a bytes c.args.text c.args.kept.now c.args.number is (equal-text c.as_slice.result.now c.args.text c.args.kept.now c.ne.result c.ne.ensures c.if-ne.false c.as_slice.ensures))
