use Rattle.std.proofs.Common.{nat_eq, arith}
use Rattle.std.proofs.lemmas.Bool.Decides.{nat_tests}
use Rattle.word_index.proofs.SetLemmas.{sorted-list}
use Rattle.word_index.proofs.reading.sorted.Goals as goal

pub returns : goal.returns
returns c =
    sorted-list c.args.numbers.items c.sort_unstable.new.self.items c.dedup.new.self.items nat_eq (λ x y. grind (arith, nat_tests)) c.sort_unstable.ensures.permutation c.sort_unstable.ensures.sorted
    c.dedup.ensures.filtered
