use Rattle.std.proofs.Common.{◌≡◌, ◌*◌, ap, rules, min}
use Rattle.std.specs.Prelude.{replicate}
use Rattle.html_pages.proofs.Indents.{indent-taken}
use Rattle.html_pages.proofs.thread.push_indent.Goals as goal

pub returns : goal.returns
returns c =
    let same : c.split_at.result.0.now ≡ replicate (2 * min c.args.depth 40) 32 =
    indent-taken c.args.depth (2 * c.min.result) c.split_at.result.0.now (ap (λ k. 2 * k) c.min.ensures) c.split_at.ensures.front in
    rw (← same) (search rules)
