use Rattle.mime_words.proofs.Plain.{decoded-plain}
use Rattle.mime_words.proofs.laws.value_without_words.Goals as goal

pub returns : goal.returns
returns c = decoded-plain
