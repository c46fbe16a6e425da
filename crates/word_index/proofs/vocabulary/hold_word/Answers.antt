use Rattle.std.proofs.Common.{◌≡◌, None}
use Rattle.std.specs.BTreeMap.{get_by}
use Rattle.word_index.specs.Vocabulary.{looks}
use Rattle.word_index.proofs.MarkLemmas.{has-none, held-none}
use Rattle.word_index.proofs.vocabulary.hold_word.Goals as goal

pub returns-clause-same : goal.returns-clause-same
returns-clause-same c =
    let old = c.args.others.now in
    let text = c.args.text.now in
    let free : get_by (looks text) old ≡ None = has-none (get_by (looks text) old) c.contains_key.result c.contains_key.ensures c.if-contains_key.false in
    held-none old c.insert.new.self c.in_ok-key.key text (c.in_ok-key.ensures.items_if_clones_equal (λ x y is. is)) free c.in_ok-insert.ensures.updates
