use Rattle.std.proofs.Common.{◌≤◌, length, get_or, arith}
use Rattle.word_index.proofs.SourceLemmas.{day-source, days-more, day-step}
use Rattle.word_index.proofs.sources.least_days.Goals as goal

pub loop-rest-preserved : goal.loop-rest-preserved
loop-rest-preserved c =
    let days = c.args.days.now in
    let rest = c.loop-rest.rest.now in
    let long : 2 ≤ length c.loop-rest.rest.now = omega arith in
    record {
      chosen = day-step days c.args.least.source c.loop-rest.least.source c.with_days-least.result.source (get_or rest 0 0) (get_or rest 1 0) c.loop-rest.invariant.chosen c.with_days-least.ensures (day-source days rest long c.loop-rest.invariant.within);
      within = rw (c.split_at.ensures.back) (days-more days rest long c.loop-rest.invariant.within);
    }
