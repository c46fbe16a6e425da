use Rattle.std.proofs.Common.{◌≡◌, None, Some, ap, ◌∙◌, sym}
use Rattle.std.specs.List.Sorted.{IsStrictlySortedBy}
use Rattle.std.specs.Map.{keys_of}
use Rattle.std.specs.Ordering.{nat_cmp}
use Rattle.overview_index.specs.Listings.{row_in, without}
use Rattle.overview_index.proofs.Indexing.{views-take}
use Rattle.overview_index.proofs.overview.Overview.take.Goals as goal

pub invariant_of-self : goal.invariant_of-self
invariant_of-self c =
    let rows = c.self.inside.rows.entries in
    let n = c.args.n in
    let row = c.in-Some.held in
    let same : c.row-row.result.now ≡ row = c.row-row.ensures in
    let sorted : IsStrictlySortedBy nat_cmp (keys_of rows) = rw c.self.invariant.numbers at c.remove-in-Some.ensures.sorted in
    let found : row_in rows n ≡ Some row = sym c.in-Some.ensures.value in
    let gone : row_in (without rows n) n ≡ None = ap (λ r. row_in r n) (sym c.remove.ensures.entries) ∙ c.remove.ensures.updates.1 in
    rw c.remove.ensures.entries
    (views-take rows c.self.inside.views c.remove-in-Some.new.self n row c.as_slice.result.now c.of.result c.self.invariant sorted found gone (rw same at c.as_slice.ensures) (rw same at c.of.ensures) c.remove-in-Some.ensures.loses)
