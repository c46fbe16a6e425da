use Rattle.std.proofs.Common.{◌≡◌, None, ap, ◌∙◌}
use Rattle.std.specs.BTreeMap.{insert_entry}
use Rattle.std.specs.Ordering.{nat_cmp}
use Rattle.overview_index.specs.Listings.{row_in, number_of, without}
use Rattle.overview_index.proofs.Indexing.{views-add, views-same, new_spot, new_number}
use Rattle.overview_index.proofs.RowLists.{without-with}
use Rattle.overview_index.proofs.overview.Overview.add.Goals as goal

pub add-requires-clause-new_spot : goal.add-requires-clause-new_spot
add-requires-clause-new_spot c =
    let rows = c.self.inside.rows.entries in
    let none : row_in rows c.args.row.number ≡ None = ap (λ r. row_in r c.args.row.number) c.self.view_is ∙ c.requires.number in
    new_spot rows c.self.inside.views c.args.row c.of-spot.result c.self.invariant none c.of-spot.ensures

pub add-requires-clause-new_number : goal.add-requires-clause-new_number
add-requires-clause-new_number c =
    let rows = c.self.inside.rows.entries in
    let none : row_in rows c.args.row.number ≡ None = ap (λ r. row_in r c.args.row.number) c.self.view_is ∙ c.requires.number in
    new_number rows c.self.inside.views c.args.row c.of-spot.result c.self.invariant none c.of-spot.ensures

pub invariant_of-self-in-Err : goal.invariant_of-self-in-Err
invariant_of-self-in-Err c =
    let rows = c.self.inside.rows.entries in
    let n = c.args.row.number in
    let none : row_in rows n ≡ None = ap (λ r. row_in r n) c.self.view_is ∙ c.requires.number in
    let back : c.remove.new.self.entries ≡ rows = c.remove.ensures.entries ∙ ap (λ r. without r n) (c.in_ok-insert.ensures.entries ∙ ap (λ r. insert_entry nat_cmp rows n r) c.in_ok-new.ensures) ∙ without-with rows n c.args.row none in
    rw back (views-same rows c.self.inside.views c.add.new.self c.self.invariant c.in-Err.ensures.err)

pub returns-in-Err-clause-err : goal.returns-in-Err-clause-err
returns-in-Err-clause-err c =
    let rows = c.self.inside.rows.entries in
    let n = c.args.row.number in
    let none : row_in rows n ≡ None = ap (λ r. row_in r n) c.self.view_is ∙ c.requires.number in
    c.remove.ensures.entries ∙ ap (λ r. without r n) (c.in_ok-insert.ensures.entries ∙ ap (λ r. insert_entry nat_cmp rows n r) c.in_ok-new.ensures) ∙ without-with rows n c.args.row none ∙ c.self.view_is

pub invariant_of-self-in_default : goal.invariant_of-self-in_default
invariant_of-self-in_default c =
    let rows = c.self.inside.rows.entries in
    let n = c.args.row.number in
    let none : row_in rows n ≡ None = ap (λ r. row_in r n) c.self.view_is ∙ c.requires.number in
    let free : number_of rows c.args.row.id ≡ None = ap (λ r. number_of r c.args.row.id) c.self.view_is ∙ c.requires.id in
    let id_is : c.into_vec-id.result.items ≡ c.args.row.id = c.into_vec-id.ensures ∙ c.in_ok-copy.ensures in
    rw (c.in_ok-insert.ensures.entries ∙ ap (λ r. insert_entry nat_cmp rows n r) c.in_ok-new.ensures)
    (views-add rows c.self.inside.views c.add.new.self c.args.row c.into_vec-id.result.items c.of-spot.result c.self.invariant none free id_is c.of-spot.ensures c.in_default.ensures.ok)
