use Rattle.mail_commits.proofs.Texts.{trimmed-nothing, trimmed-crash_between}
use Rattle.mail_commits.proofs.facts.trimmed.Goals as goal

pub returns-then-front-start : goal.returns-then-front-start
returns-then-front-start c =
    trimmed-nothing c.args.text.now c.split_at.result.0.now c.spaces_before-start.result c.trailing_spaces.result c.spaces_before-start.ensures c.trailing_spaces.ensures.value c.split_at.ensures.front
    c.if-front-start.true

pub returns : goal.returns
returns c =
    trimmed-crash_between c.args.text.now c.split_at.result.0.now c.split_at-2.result.1.now c.spaces_before-start.result c.trailing_spaces.result c.spaces_before-start.ensures c.trailing_spaces.ensures.value
    c.split_at.ensures.front c.split_at-2.ensures.back
