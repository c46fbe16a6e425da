use Rattle.std.proofs.Common.{take}
use Rattle.word_index.specs.Vocabulary.{AreNumbersOf, KeepsWords}
use Rattle.word_index.proofs.vocabulary.Vocabulary.number_all.Given as goal

abbrev pub invariant-loop-index : goal.invariant-loop-index
invariant-loop-index l =
    record {
      are : AreNumbersOf l.self (take l.index l.texts) l.numbers.items;
      keeps : KeepsWords l.fn.self l.self;
    }
