use Rattle.atom_mbox.proofs.Mailing.{told-sum}
use Rattle.atom_mbox.proofs.mailbox.mbox_len.Goals as goal

pub returns-clause-texts : goal.returns-clause-texts
returns-clause-texts c = λ texts told fits. told-sum c.args.rows.now texts c.sum_of_pieces.result c.sum_of_pieces.ensures told fits
