use Rattle.mime_words.proofs.Padded.{encoded}
use Rattle.mime_words.proofs.laws.encoded_bytes.Goals as goal

pub returns : goal.returns
returns c = encoded
