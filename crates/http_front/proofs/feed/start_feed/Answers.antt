use Rattle.std.proofs.Common.{ap}
use Rattle.arch_base.specs.declared.config.Config.{Config}
use Rattle.http_front.proofs.feed.start_feed.Goals as goal

pub returns : goal.returns
returns g c = λ a held. rw (ap (λ (k : Config). k.name) (c.config.ensures a held), c.updated.ensures.value a held) at c.push_feed_start.ensures.ok
