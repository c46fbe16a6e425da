use Rattle.std.proofs.Common.{◌≡◌, ◌∙◌, ap, map, List, ℕ}
use Rattle.std.proofs.lemmas.List.Filters.{dedup_is}
use Rattle.std.proofs.lemmas.Result.{IfOk-weaker}
use Rattle.text_words.specs.Sets.{word_set, lent}
use Rattle.text_words.proofs.SetLemmas.{sorted-set}
use Rattle.text_words.proofs.sets.word_set.Goals as goal

pub returns : goal.returns
returns c =
    let set = sorted-set c.args.words.now c.in_ok-found.found.items c.sort_unstable.new.self.items c.dedup.new.self.items c.in_ok-found.ensures c.sort_unstable.ensures.permutation c.sort_unstable.ensures.sorted (dedup_is _ _ _ c.dedup.ensures.filtered) in
    IfOk-weaker c.packed.result (λ made. made ≡ map lent c.as_slice.result.now) (λ (made : List (List ℕ)). made ≡ word_set c.args.words.now) (λ made is. is ∙ ap (map lent) c.as_slice.ensures.value ∙ set) c.packed.ensures
