use Rattle.std.proofs.Common.{◌≡◌, ◌++◌, take}
use Rattle.std.specs.Borrow.{Bor}
use Rattle.std.specs.List.{flat_map}
use Rattle.mail_forms.specs.declared.row.Row.{Row}
use Rattle.html_pages.specs.Lines.{row_line}
use Rattle.html_pages.proofs.listing.push_rows.Given as goal

abbrev pub invariant-loop-row : goal.invariant-loop-row
invariant-loop-row l = l.into ≡ l.fn.into ++ flat_map (λ (row : Bor Row). row_line l.name row.now) (take l.row-index l.rows)
