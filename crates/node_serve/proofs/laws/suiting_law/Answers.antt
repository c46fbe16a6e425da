use Rattle.node_serve.proofs.Suits.{go_on_suiting}
use Rattle.node_serve.proofs.laws.suiting_law.Goals as goal

pub returns : goal.returns
returns c = go_on_suiting c.gone_stay.ensures.commands c.gone_stay.ensures.itself c.gone_stay.ensures.through c.law_of_commands.ensures.valid c.door_laws.ensures.suits
