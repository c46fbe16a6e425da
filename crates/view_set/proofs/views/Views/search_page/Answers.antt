use Rattle.std.specs.Prelude.{take, drop}
use Rattle.std.proofs.Common.{◌∙◌, ◌≤◌, ℕ, List, length, ap, arith, subst}
use Rattle.std.proofs.lemmas.Result.{IfOk-weaker}
use Rattle.view_set.proofs.Newest.{page-of-front}
use Rattle.view_set.proofs.views.Views.search_page.Goals as goal

pub returns-in_default : goal.returns-in_default
returns-in_default c = c.search_part.ensures

pub returns-then-as_slice-wanted : goal.returns-then-as_slice-wanted
returns-then-as_slice-wanted c = c.search_part-then-as_slice-wanted.ensures

pub returns : goal.returns
returns c = λ form entries ordered same.
    let newest = c.in_ok-newest.newest in
    let sum = c.in-Some.ensures.1 in
    let enough : c.in-Some.wanted ≤ length newest = subst (λ (ns : List ℕ). c.in-Some.wanted ≤ length ns) c.as_slice.ensures c.if-as_slice-wanted.false in
    IfOk-weaker c.part_of.result _ _
    (λ page is.
    page-of-front c.args.query.now c.args.self.now newest page c.args.skip c.args.count c.in_ok-newest.ensures (omega (arith, sum, enough)) (is ∙ ap (λ (ns : List ℕ). take c.args.count (drop c.args.skip ns)) c.as_slice-2.ensures) form entries ordered same)
    c.part_of.ensures
