use Rattle.std.proofs.Common.{refl}
use Rattle.word_index.proofs.WordLemmas.{number-known}
use Rattle.word_index.proofs.vocabulary.Vocabulary.number.Goals as goal

pub returns-in-Some-clause-ok : goal.returns-in-Some-clause-ok
returns-in-Some-clause-ok c = number-known c.args.self.now c.args.text.now c.args.text.now c.in-Some.number c.in-Some.ensures refl
