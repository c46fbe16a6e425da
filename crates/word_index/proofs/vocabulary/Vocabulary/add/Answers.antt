use Rattle.std.proofs.Common.{rules, ◌≡◌, Some, None, sym, ◌∙◌}
use Rattle.word_index.specs.Vocabulary.{IsNumberOf}
use Rattle.word_index.proofs.MarkLemmas.{added-first, added-other}
use Rattle.word_index.proofs.vocabulary.Vocabulary.add.Goals as goal

pub invariant_of-self : goal.invariant_of-self
invariant_of-self c =
    let none : c.first_with.result ≡ None = search rules in
    let e = c.add_first.ensures in
    added-first c.add_first.result c.self.inside.words c.add_first.new.words c.args.text.now c.args.mark c.self.inside.first c.add_first.new.first c.self.inside.others c.self.invariant c.requires.mark
    (sym c.first_with.ensures ∙ none) e.added e.err e.set e.same

pub invariant_of-self-in-Some : goal.invariant_of-self-in-Some
invariant_of-self-in-Some c =
    let j = c.in-Some.field-0 in
    let taken : c.first_with.result ≡ Some j = search rules in
    let new : IsNumberOf c.self.inside.words c.args.text.now None = rw c.self.view_is c.requires.new in
    let e = c.add_other.ensures in
    added-other c.add_other.result c.self.inside.words c.add_other.new.words c.args.text.now c.args.mark j c.self.inside.first c.self.inside.others c.add_other.new.others c.self.invariant new c.requires.mark
    (sym c.first_with.ensures ∙ taken) e.added e.err e.set e.same
