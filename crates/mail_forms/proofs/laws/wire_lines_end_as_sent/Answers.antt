use Rattle.mail_forms.proofs.WireLengths.{wire-ends}
use Rattle.mail_forms.proofs.laws.wire_lines_end_as_sent.Goals as goal

pub returns : goal.returns
returns c = wire-ends
