use Rattle.mime_words.proofs.Padded.{loose}
use Rattle.mime_words.proofs.laws.loose_base64.Goals as goal

pub returns : goal.returns
returns c = loose
