use Rattle.std.proofs.Common.{[], get_or, List, ℕ, sym, ap, ◌∙◌}
use Rattle.text_words.proofs.PackedLemmas.{has-end, starts-within, end-le, get-cut}
use Rattle.text_words.proofs.packed_words.PackedWords.get.Goals as goal

pub word_at-requires-clause-known : goal.word_at-requires-clause-known
word_at-requires-clause-known c =
    rw (c.as_slice-2.ensures.value) (has-end c.self.inside.bytes.items c.self.inside.ends.items c.args.self.now c.args.index c.self.view_is c.requires)

pub word_at-requires-clause-rises : goal.word_at-requires-clause-rises
word_at-requires-clause-rises c =
    let within = has-end c.self.inside.bytes.items c.self.inside.ends.items c.args.self.now c.args.index c.self.view_is c.requires in
    rw (c.as_slice-2.ensures.value) (starts-within c.self.inside.ends.items _ c.args.index c.self.invariant within)

pub word_at-requires-clause-within : goal.word_at-requires-clause-within
word_at-requires-clause-within c =
    let within = has-end c.self.inside.bytes.items c.self.inside.ends.items c.args.self.now c.args.index c.self.view_is c.requires in
    rw (c.as_slice-2.ensures.value, c.as_slice.ensures.value) (end-le 0 c.self.inside.ends.items _ c.args.index c.self.invariant within)

pub returns : goal.returns
returns c =
    let within = has-end c.self.inside.bytes.items c.self.inside.ends.items c.args.self.now c.args.index c.self.view_is c.requires in
    let is = get-cut c.self.inside.bytes.items 0 c.self.inside.ends.items c.args.index within in
    rw (c.word_at.ensures, c.as_slice-2.ensures.value, c.as_slice.ensures.value) (sym is ∙ ap (λ (ws : List (List ℕ)). get_or ws c.args.index []) c.self.view_is)
