use Rattle.std.proofs.Common.{◌++◌, List, ℕ, sym, ap, ◌∙◌}
use Rattle.std.proofs.lemmas.Bool.Decides.{Decides-eqb}
use Rattle.std.proofs.lemmas.List.{append_cancel_left}
use Rattle.std.proofs.lemmas.Slice.Eq.{slice_eq-Decides}
use Rattle.epoch_file.proofs.reading.is_joined.Goals as goal

pub returns-in-Some : goal.returns-in-Some
returns-in-Some c =
    let first = c.args.first.now in
    let rest = c.in-Some.rest.now in
    let second = c.args.second.now in
    let told = slice_eq-Decides Decides-eqb rest second c.eq.result c.eq.ensures in (
      λ yes_. c.in-Some.ensures ∙ ap (λ (l : List ℕ). first ++ l) (told.0 yes_),
      λ same. told.1 (append_cancel_left first rest second (sym c.in-Some.ensures ∙ same)),
    )
