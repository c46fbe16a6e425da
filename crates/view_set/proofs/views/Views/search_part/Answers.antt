use Rattle.std.specs.Prelude.{take, drop}
use Rattle.std.proofs.Common.{◌∙◌, ℕ, List, ap}
use Rattle.std.proofs.lemmas.Result.{IfOk-weaker}
use Rattle.view_set.specs.Viewed.{searched}
use Rattle.view_set.proofs.Newest.{searched-ordered}
use Rattle.view_set.proofs.views.Views.search_part.Goals as goal

pub returns : goal.returns
returns c = λ form entries ordered same.
    let query = c.args.query.now in
    IfOk-weaker c.part_of.result _ _
    (λ page is.
    is ∙ ap (λ (ns : List ℕ). take c.args.count (drop c.args.skip ns)) (c.as_slice.ensures ∙ c.in_ok-found.ensures ∙ ap (searched query) same ∙ searched-ordered form query entries ordered))
    c.part_of.ensures
