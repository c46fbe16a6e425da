use Rattle.std.proofs.Common.{ap, ◌∙◌, ◌++◌, ℕ, List}
use Rattle.word_index.proofs.AskedLemmas.{anywhere-list}
use Rattle.word_index.proofs.reading.numbers_anywhere.Goals as goal

pub returns : goal.returns
returns c =
    anywhere-list c.args.tables.now c.args.word c.in_ok-found.found.items c.in_ok-from.from.items c.in_ok-body.body.items c.extend_from_slice-2.new.self.items c.sorted.result.items
    (c.in_ok-extend_from_slice-2.ensures.items ∙ rw (c.as_slice-2.ensures.value) (ap (λ (l : List ℕ). l ++ c.in_ok-body.body.items) (c.in_ok-extend_from_slice.ensures.items ∙ ap (λ (l : List ℕ). c.in_ok-found.found.items ++ l) c.as_slice.ensures.value)))
    c.in_ok-found.ensures c.in_ok-from.ensures c.in_ok-body.ensures c.sorted.ensures
