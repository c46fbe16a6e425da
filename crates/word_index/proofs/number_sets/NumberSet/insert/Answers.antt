use Rattle.std.proofs.Common.{ℕ, ap, ◌∙◌}
use Rattle.std.specs.BTreeSet.{BTreeSet}
use Rattle.word_index.proofs.SetLemmas.{inserted-sorted, inserted-has}
use Rattle.word_index.proofs.number_sets.NumberSet.insert.Goals as goal

pub invariant_of-self-in-Err : goal.invariant_of-self-in-Err
invariant_of-self-in-Err c =
    inserted-sorted c.args.self.now.keys c.self.inside.numbers.items c.insert.new.self.items c.in-Err.place c.args.n
    (ap (λ (s : BTreeSet ℕ). s.keys) c.self.view_is ∙ c.make_room.ensures) c.in_ok-insert-in-Err.ensures.items c.self.invariant c.in-Err.ensures

pub returns-in_ok-insert-in-Err-clause-ok : goal.returns-in_ok-insert-in-Err-clause-ok
returns-in_ok-insert-in-Err-clause-ok c =
    inserted-has c.args.self.now.keys c.self.inside.numbers.items c.insert.new.self.items c.in-Err.place c.args.n
    (ap (λ (s : BTreeSet ℕ). s.keys) c.self.view_is ∙ c.make_room.ensures) c.in_ok-insert-in-Err.ensures.items
