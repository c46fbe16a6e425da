use Rattle.std.proofs.Common.{◌≡◌, ◌≤◌, true, length, get_or, sym, ◌∙◌, arith}
use Rattle.query_lang.specs.Matching.{is_between}
use Rattle.query_lang.proofs.RangeLemmas.{ranges-more}
use Rattle.query_lang.proofs.matching.in_ranges.Goals as goal

pub loop-rest-preserved : goal.loop-rest-preserved
loop-rest-preserved c =
    let long : 2 ≤ length c.loop-rest.rest.now = omega arith in
    let inside : is_between c.args.day (get_or c.loop-rest.rest.now 0 0) (get_or c.loop-rest.rest.now 1 0) ≡ true = cc in
    let more = ranges-more c.loop-rest.rest.now c.args.day long inside in
    rw (c.split_at.ensures.back) (sym more ∙ c.loop-rest.invariant)
