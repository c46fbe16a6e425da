use Rattle.std.proofs.Common.{◌∙◌, Some, None, sym}
use Rattle.http_front.proofs.Pieces.{piece-of}
use Rattle.http_front.proofs.mailbox.piece_len.Goals as goal

pub returns-in-Some-clause-value : goal.returns-in-Some-clause-value
returns-in-Some-clause-value g c = λ a held. c.widened.ensures.value ∙ sym (piece-of a c.args.n (Some c.in-Some.row.now) (c.in-Some.ensures a held))

pub returns-in-None-clause-value : goal.returns-in-None-clause-value
returns-in-None-clause-value g c = λ a held. sym (piece-of a c.args.n None (c.in-None.ensures a held))
