use Rattle.word_index.proofs.WordLemmas.{keeps-same, keeps-then, numbers-none, numbers-step}
use Rattle.word_index.proofs.vocabulary.Vocabulary.number_all.Goals as goal

pub loop-index-init : goal.loop-index-init
loop-index-init c = record { are = rw c.in_ok-numbers.ensures.items (numbers-none c.args.self.now); keeps = keeps-same c.args.self.now }

pub loop-index-preserved : goal.loop-index-preserved
loop-index-preserved c =
    record {
      are = numbers-step c.loop-index.self c.number.new.self c.args.texts.now c.loop-index.index c.get.result.now c.loop-index.numbers.items c.push.new.self.items c.in_ok-number.field-0 (rw (← c.len-index-end.ensures) c.loop-index-test.true) c.get.ensures
          c.number.ensures.keeps c.loop-index.invariant.are c.in_ok-number.ensures.ok c.in_ok-push.ensures.items;
      keeps = keeps-then c.args.self.now c.loop-index.self c.number.new.self c.loop-index.invariant.keeps c.number.ensures.keeps;
    }
