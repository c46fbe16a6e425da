use Rattle.std.proofs.Common.{rules, ◌≡◌, Some, None, true, false, ap, sym, ◌∙◌}
use Rattle.std.specs.Str.{bytes_eq}
use Rattle.word_index.specs.Vocabulary.{word_at, number_by}
use Rattle.word_index.proofs.MarkLemmas.{known-by, by-first}
use Rattle.word_index.proofs.vocabulary.Vocabulary.known.Goals as goal

pub returns-in_default : goal.returns-in_default
returns-in_default c =
    let words = c.self.inside.words in
    let none : c.first_with.result ≡ None = search rules in
    rw (← c.self.view_is)
    (known-by words c.self.inside.first c.self.inside.others c.args.text.now c.args.mark c.first_with.result None c.self.invariant c.requires c.first_with.ensures
    (ap (number_by words c.self.inside.others c.args.text.now) none))

pub get-requires : goal.get-requires
get-requires c =
    let at : c.first_with.result ≡ Some c.in-Some.number = search rules in
    (c.self.invariant.firsts c.args.mark c.in-Some.number (sym c.first_with.ensures ∙ at)).0

pub returns-then-eq : goal.returns-then-eq
returns-then-eq c =
    let words = c.self.inside.words in
    let i = c.in-Some.number in
    let text = c.args.text.now in
    let at : c.first_with.result ≡ Some i = search rules in
    let same : bytes_eq (word_at words i) text ≡ true = rw (← c.get.ensures) (sym c.eq.ensures ∙ c.if-eq.true) in
    rw (← c.self.view_is)
    (known-by words c.self.inside.first c.self.inside.others text c.args.mark c.first_with.result (Some i) c.self.invariant c.requires c.first_with.ensures
    (by-first words c.self.inside.others text c.first_with.result i true at same))

pub returns : goal.returns
returns c =
    let words = c.self.inside.words in
    let i = c.in-Some.number in
    let text = c.args.text.now in
    let at : c.first_with.result ≡ Some i = search rules in
    let other : bytes_eq (word_at words i) text ≡ false = rw (← c.get.ensures) (sym c.eq.ensures ∙ c.if-eq.false) in
    rw (← c.self.view_is)
    (known-by words c.self.inside.first c.self.inside.others text c.args.mark c.first_with.result c.other_at.result c.self.invariant c.requires c.first_with.ensures
    (by-first words c.self.inside.others text c.first_with.result i false at other ∙ sym c.other_at.ensures))
