use Rattle.std.proofs.Common.{◌+◌, ◌∙◌, ap, drop, arith}
use Rattle.http_heads.proofs.Targets.{query-some, query-none}
use Rattle.http_heads.proofs.parameters.split_target.Goals as goal

pub returns-in-empty-clause-query : goal.returns-in-empty-clause-query
returns-in-empty-clause-query c = query-none c.path_len.result c.args.target.now c.split_at.result.1.now c.split_at.ensures.back (omega (arith, c.in-empty.len_below)) ∙ ap (λ n. drop (n + 1) c.args.target.now) c.path_len.ensures.value

pub returns-in-len1-up-clause-query : goal.returns-in-len1-up-clause-query
returns-in-len1-up-clause-query c = query-some c.path_len.result c.args.target.now c.split_at.result.1.now c.split_at.ensures.back ∙ ap (λ n. drop (n + 1) c.args.target.now) c.path_len.ensures.value
