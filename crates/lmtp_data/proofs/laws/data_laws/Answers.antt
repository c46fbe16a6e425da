-- The laws of the data.
use Rattle.lmtp_data.proofs.SentLines.{all_data_laws}
use Rattle.lmtp_data.proofs.laws.data_laws.Goals as goal

pub returns : goal.returns
returns c = all_data_laws
