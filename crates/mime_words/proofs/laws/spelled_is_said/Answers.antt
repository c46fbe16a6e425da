use Rattle.mime_words.proofs.Said.{said}
use Rattle.mime_words.proofs.laws.spelled_is_said.Goals as goal

pub returns : goal.returns
returns c = said
