use Rattle.std.proofs.Common.{◌≡◌, take}
use Rattle.std.specs.Borrow.{Bor}
use Rattle.std.specs.Prelude.{map}
use Rattle.arch_model.specs.Archives.{Archive}
use Rattle.mail_forms.specs.declared.row.Row.{Row}
use Rattle.http_front.specs.Views.{rows_at}
use Rattle.http_front.proofs.listing.rows_of.Given as goal

abbrev pub invariant-loop-n : goal.invariant-loop-n
invariant-loop-n g l = (a : Archive) → g.S.Shelf.holds l.shelf a
    → map (λ (row : Bor Row). row.now) l.rows.items ≡ rows_at a (take l.n-index l.numbers)
