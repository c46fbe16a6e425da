use Rattle.std.proofs.Common.{◌∙◌, sym}
use Rattle.arch_judge.proofs.Judged.{known-anew}
use Rattle.arch_judge.proofs.judging.judge_made.Goals as goal

pub returns-in-Ok-Take-clause-judged : goal.returns-in-Ok-Take-clause-judged
returns-in-Ok-Take-clause-judged c =
    λ a bytes known is made. c.judge_new.ensures.judged a bytes c.args.text.now known is
    (made ∙ sym (c.in-Ok-Take.ensures.choice a (known-anew c.args.config.now c.args.index.now c.args.next a known)) ∙ c.in-Ok-Take.field-0-is)
