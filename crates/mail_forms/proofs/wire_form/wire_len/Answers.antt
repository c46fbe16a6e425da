use Rattle.std.proofs.Common.{arith}
use Rattle.mail_forms.proofs.WireLengths.{length-wire}
use Rattle.mail_forms.proofs.wire_form.wire_len.Goals as goal

pub returns-clause-value : goal.returns-clause-value
returns-clause-value c = λ short. omega (arith, length-wire c.args.text.now)

pub returns-clause-most : goal.returns-clause-most
returns-clause-most c = omega (arith, length-wire c.args.text.now)
