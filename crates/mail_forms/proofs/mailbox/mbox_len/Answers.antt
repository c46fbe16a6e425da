use Rattle.std.proofs.Common.{arith}
use Rattle.mail_forms.proofs.MailboxLengths.{length-mbox}
use Rattle.mail_forms.proofs.mailbox.mbox_len.Goals as goal

pub returns-clause-value : goal.returns-clause-value
returns-clause-value c = λ short. omega (arith, length-mbox c.args.text.now)

pub returns-clause-most : goal.returns-clause-most
returns-clause-most c = omega (arith, length-mbox c.args.text.now)
