use Rattle.mime_words.proofs.Spelling.{spelled, found}
use Rattle.mime_words.proofs.laws.words_are_spelled.Goals as goal

pub returns : goal.returns
returns c = λ bytes word. (found bytes word, spelled bytes word)
