use Rattle.std.proofs.Common.{◌∙◌}
use Rattle.imap_states.proofs.Ranges.{range-counted}
use Rattle.imap_states.proofs.boxes.box_count.Goals as goal

pub returns : goal.returns
returns g c = λ a held valid order. c.live_count.ensures a held ∙ range-counted a c.args.range.first c.args.range.last valid order
