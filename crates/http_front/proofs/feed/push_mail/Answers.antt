use Rattle.http_front.proofs.Feeds.{appends-none}
use Rattle.std.proofs.Common.{◌∙◌}
use Rattle.http_front.proofs.feed.push_mail.Goals as goal

pub push_live-requires-clause-live : goal.push_live-requires-clause-live
push_live-requires-clause-live g c = λ a held. c.is_live.ensures a held ∙ c.if-is_live.true

pub returns-else-is_live-clause-entry : goal.returns-else-is_live-clause-entry
returns-else-is_live-clause-entry g c = λ a held. appends-none a c.args.n c.args.into.now (c.is_live.ensures a held ∙ c.if-is_live.false)
