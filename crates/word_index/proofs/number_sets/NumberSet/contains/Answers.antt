use Rattle.std.proofs.Common.{◌∙◌}
use Rattle.word_index.proofs.SetLemmas.{place-has}
use Rattle.word_index.proofs.number_sets.NumberSet.contains.Goals as goal

pub returns : goal.returns
returns c = c.is_ok.ensures.value ∙ place-has c.args.self.now.keys c.args.n c.place.result c.place.ensures
