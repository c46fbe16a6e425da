use Rattle.imap_items.proofs.Spans.{sections-spans}
use Rattle.imap_items.proofs.laws.sections_are_spans.Goals as goal

pub returns : goal.returns
returns c = sections-spans c.parts_lie_in.ensures
