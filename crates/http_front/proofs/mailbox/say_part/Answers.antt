use Rattle.std.proofs.Common.{◌∙◌}
use Rattle.http_front.proofs.Streaming.{part-none}
use Rattle.http_front.proofs.mailbox.say_part.Goals as goal

pub say_piece-requires-clause-live : goal.say_piece-requires-clause-live
say_piece-requires-clause-live g c = λ a held. c.is_live.ensures a held ∙ c.if-is_live.true

pub returns-else-is_live-clause-part : goal.returns-else-is_live-clause-part
returns-else-is_live-clause-part g c = λ a held. part-none c.args.moment a.entries c.args.n c.args.begun c.args.unsaid.now _ (c.is_live.ensures a held ∙ c.if-is_live.false)
