use Rattle.http_front.proofs.Feeds.{latest-more}
use Rattle.http_front.proofs.feed.latest.Goals as goal

pub loop-n-preserved : goal.loop-n-preserved
loop-n-preserved g c = record {
  value = λ a held.
      latest-more a c.args.numbers.now c.loop-n.n-index _ c.loop-n.last c.arrival.result c.later-last.result c.loop-n-test.true (c.loop-n.invariant.value a held) (c.arrival.ensures.value a held) c.later-last.ensures.value;
  moment = c.later-last.ensures.moment c.loop-n.invariant.moment c.arrival.ensures.moment;
}
