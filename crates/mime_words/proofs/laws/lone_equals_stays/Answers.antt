use Rattle.mime_words.proofs.Quoting.{lone_stays}
use Rattle.mime_words.proofs.laws.lone_equals_stays.Goals as goal

pub returns : goal.returns
returns c = lone_stays
