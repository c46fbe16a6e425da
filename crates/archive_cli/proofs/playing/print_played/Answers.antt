use Rattle.std.proofs.Common.{◌++◌, ℕ, List, codes, sym, subst}
use Rattle.answer_lines.specs.Lines.{whole_line}
use Rattle.archive_cli.specs.Printing.{IsPlayedAs}
use Rattle.archive_cli.specs.declared.playing.Played.TheVariants.{Whole, Cut}
use Rattle.archive_cli.specs.declared.status.Status.TheVariants as exit
use Rattle.archive_cli.proofs.Printed.{printed-as, printed-said, due-played, due-cut}
use Rattle.archive_cli.proofs.playing.print_played.Goals as goal

pub returns-in-Whole-clause-printed : goal.returns-in-Whole-clause-printed
returns-in-Whole-clause-printed g c = λ config text arrivals played script short.
    let of_slice : IsPlayedAs config text arrivals (Whole c.as_slice.result.now) = subst (λ (f : List ℕ). IsPlayedAs config text arrivals (Whole f)) (sym c.as_slice.ensures) (rw c.in-Whole.is at played) in
    printed-as _ _ _ _ _ _ _ c.print.ensures.printed (due-played config text c.as_slice.result.now arrivals short script of_slice)

pub returns-in-Cut-clause-printed : goal.returns-in-Cut-clause-printed
returns-in-Cut-clause-printed g c = λ config text arrivals played script short.
    let of_slice : IsPlayedAs config text arrivals (Cut c.as_slice-in-Cut.result.now) = subst (λ (f : List ℕ). IsPlayedAs config text arrivals (Cut f)) (sym c.as_slice-in-Cut.ensures) (rw c.in-Cut.is at played) in
    printed-as _ _ _ _ _ _ _ (printed-said _ _ _ _ (c.as_slice-in-Cut.result.now ++ whole_line (codes "12 no memory")) exit.Memory _ _ c.say_cut.ensures.said c.if_taken.ensures) (due-cut config text c.as_slice-in-Cut.result.now of_slice)
