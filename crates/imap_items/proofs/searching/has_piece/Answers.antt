use Rattle.std.proofs.Common.{◌∙◌}
use Rattle.imap_items.proofs.PieceLemmas.{found-has}
use Rattle.imap_items.proofs.searching.has_piece.Goals as goal

pub returns : goal.returns
returns c = c.is_some.ensures ∙ found-has c.args.piece.now c.args.text.now c.find.result c.find.ensures
