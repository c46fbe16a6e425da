use Rattle.mail_forms.proofs.WireLengths.{length-wire}
use Rattle.mail_forms.proofs.laws.wire_len_is_sum.Goals as goal

pub returns : goal.returns
returns c = length-wire
