-- What a fetch holds.
use Rattle.std.proofs.Common.{[], ap, ◌∙◌}
use Rattle.arch_model.specs.Archives.{Archive}
use Rattle.arch_model.specs.Shelves.{lines_after}
use Rattle.fetch_course.specs.Laws.{HoldsTheList}
use Rattle.fetch_course.proofs.Lines.{lines-held, right-lines}

pub holds_the_list : HoldsTheList
holds_the_list a b next at lines replies stage =
    let held = lines-held a b next at [] lines replies stage in
    (ap (λ (x : Archive). lines_after a.config.form [] x.entries) held.is ∙ right-lines a [] lines held.rest held.right, ap (λ (x : Archive). x.next) held.is, ap (λ (x : Archive). x.config) held.is)
