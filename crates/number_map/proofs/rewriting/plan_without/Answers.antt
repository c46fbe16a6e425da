-- One more number is planned without its message.
use Rattle.std.proofs.Common.{◌≡◌, ◌∙◌, ◌+◌, ◌<◌, ◌≤◌, ◌^◌, ℕ, List, [], ◌∷◌, length, drop, get_or, ap, arith, subst, sym}
use Rattle.std.proofs.lemmas.List.{drop_all, drop_more}
use Rattle.number_map.specs.Rewriting.{PlansMap, RisesUpTo}
use Rattle.number_map.proofs.Planned.{AreLeft, gone_planned, last_planned, left_next}
use Rattle.number_map.proofs.rewriting.plan_without.Goals as goal

pub loop-number-preserved : goal.loop-number-preserved
loop-number-preserved c =
    let before = c.loop-number.invariant in
    let items = c.as_slice-number-items.result.now in
    let gone = c.args.gone.now in
    let i = c.loop-number.number-index in
    let done = c.loop-number.done in
    let count = c.args.count in
    let number = get_or items i 0 in
    let is : items ≡ gone = c.as_slice-number-items.ensures in
    let below : i < length items = c.loop-number-test.true in
    let at : drop i gone ≡ number ∷ drop (i + 1) gone = ap (λ (l : List ℕ). drop i l) (sym is) ∙ (drop_more items i 0 below ∙ ap (λ (l : List ℕ). number ∷ drop (i + 1) l) is) in
    let rises : RisesUpTo (done + 1) count (number ∷ drop (i + 1) gone) = subst (RisesUpTo (done + 1) count) at before.left.rises in
    let low : done < number = (let least = rises.0 in omega (arith, least)) in
    let high : number ≤ count = rises.1 in
    let fits : number < 2 ^ 32 = omega (arith, high, c.ranges.count.fits) in
    record {
      bound = high;
      left = left_next gone (drop i gone) (drop (i + 1) gone) done count number at before.left;
      planned = gone_planned c.args.form c.args.file done number count gone (drop i gone) (drop (i + 1) gone) c.loop-number.plan c.push_gone.new.plan fits low at before.left c.in_ok-push_gone.ensures before.planned;
    }

pub returns : goal.returns
returns c =
    let before = c.loop-number.invariant in
    let items = c.as_slice-number-items.result.now in
    let gone = c.args.gone.now in
    let i = c.loop-number.number-index in
    let is : items ≡ gone = c.as_slice-number-items.ensures in
    let most : length items ≤ i = c.loop-number-test.false in
    let none : drop i gone ≡ [] = ap (λ (l : List ℕ). drop i l) (sym is) ∙ drop_all i items most in
    let left = subst (AreLeft gone c.loop-number.done c.args.count) none before.left in
    subst (PlansMap c.args.form c.args.file c.args.count gone) (sym c.in_ok-push_range.ensures.ok) (last_planned c.args.form c.args.file c.loop-number.done c.args.count c.records_size.result c.records_size-2.result gone c.loop-number.plan c.ranges.count.fits before.bound
    c.records_size.ensures.size c.records_size-2.ensures.size left before.planned)
