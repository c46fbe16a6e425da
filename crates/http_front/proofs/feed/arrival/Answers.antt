use Rattle.std.proofs.Common.{◌∙◌}
use Rattle.http_front.proofs.Feeds.{latest-row, latest-none}
use Rattle.http_front.proofs.feed.arrival.Goals as goal

pub returns-in-Some-clause-value : goal.returns-in-Some-clause-value
returns-in-Some-clause-value g c = λ a held. c.moment_of.ensures.value ∙ latest-row a c.args.n c.in-Some.row.now (c.in-Some.ensures a held)

pub returns-in-None-clause-value : goal.returns-in-None-clause-value
returns-in-None-clause-value g c = λ a held. latest-none a c.args.n (c.in-None.ensures a held)
