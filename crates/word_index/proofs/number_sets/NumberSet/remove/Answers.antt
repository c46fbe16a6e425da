use Rattle.std.proofs.Common.{ℕ, ap, ◌∙◌}
use Rattle.std.specs.BTreeSet.{BTreeSet}
use Rattle.word_index.proofs.SetLemmas.{sorted-remove, removed-has, has-none-less}
use Rattle.word_index.proofs.number_sets.NumberSet.remove.Goals as goal

pub invariant_of-self : goal.invariant_of-self
invariant_of-self c = rw c.remove.ensures.items (sorted-remove c.self.inside.numbers.items c.in-Ok.place c.self.invariant)

pub returns-in-Ok : goal.returns-in-Ok
returns-in-Ok c =
    removed-has c.args.self.now.keys c.self.inside.numbers.items c.give_back.new.self.keys c.in-Ok.place c.args.n (ap (λ (s : BTreeSet ℕ). s.keys) c.self.view_is)
    (c.give_back.ensures ∙ c.remove.ensures.items)
    c.self.invariant c.in-Ok.ensures

pub returns-in_default : goal.returns-in_default
returns-in_default c m = has-none-less c.args.self.now.keys c.in_default.field-0 c.args.n m c.in_default.ensures.1 c.in_default.ensures.2
