use Rattle.std.proofs.Common.{◌∙◌, ap}
use Rattle.arch_model.specs.Rows.{row_of}
use Rattle.mail_forms.specs.declared.row.Row.{Row}
use Rattle.overview_index.specs.Listings.{row_in}
use Rattle.view_set.specs.Viewed.{with_mail}
use Rattle.view_set.proofs.Results.{none-copied, on-weaker}
use Rattle.view_set.proofs.rows.add_row.Goals as goal

-- No row has the number of the row.
pub add-requires-clause-number : goal.add-requires-clause-number
add-requires-clause-number c =
    none-copied c.get.result (row_in c.args.views.now.rows c.in_ok-row.row.number) c.is_some.result c.is_some.ensures c.if-is_some.false c.get.ensures

pub returns-clause-ok : goal.returns-clause-ok
returns-clause-ok c = λ form ids_are.
    let row = row_of form c.args.number c.args.text.now c.args.moment in
    on-weaker c.add.result _ _
    (λ is.
    is ∙ ap (λ (r : Row). with_mail c.args.views.now r c.in_ok-words.words) (c.in_ok-row.ensures form ids_are) ∙ ap (with_mail c.args.views.now row) c.in_ok-words.ensures)
    c.add.ensures.ok
