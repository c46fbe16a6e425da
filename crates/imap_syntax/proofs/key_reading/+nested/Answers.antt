use Rattle.std.proofs.Common.{◌≡◌, ◌∷◌, [], ◌++◌, ◌-◌, ◌+◌, length, map, Some, sym, ap, ◌∙◌, arith}
use Rattle.std.proofs.lemmas.List.{map-append}
use Rattle.imap_words.proofs.Lists.{many_more, many_last, many_stopped}
use Rattle.imap_syntax.specs.Keys.{key_at}
use Rattle.imap_syntax.specs.Trees.{tree_of}
use Rattle.imap_syntax.proofs.KeyLemmas.{key_named}
use Rattle.imap_syntax.proofs.key_reading.+nested.Goals as goal

pub key-returns : goal.key-returns
key-returns n c =
    rw (key_named c.args.depth c.first-first.result c.args.cursor.now c.if-depth-eq0.false c.first-first.ensures
    (sym c.if-has.ensures) c.if-first-eq42.false c.if-first-eq40.false) c.named.ensures

pub keys-returns-in-Err : goal.keys-returns-in-Err
keys-returns-in-Err n c =
    many_stopped c.in-Err.stop (key_at c.args.depth) (length c.rest-index-end.result.now - c.loop-index._index)
    (length c.rest-index-end.result.now - (c.loop-index._index + 1)) c.loop-index.cursor
    (map tree_of c.loop-index.keys.items) _ (omega arith) c.in-Err.ensures c.loop-index.invariant

pub keys-returns-then-not-has : goal.keys-returns-then-not-has
keys-returns-then-not-has n c =
    let grown : map tree_of c.push.new.self.items ≡ map tree_of c.loop-index.keys.items ++ tree_of c.in-Ok.key ∷ []
    = ap (map tree_of) c.in_ok-push-in-Ok.ensures.items ∙ map-append tree_of c.loop-index.keys.items (c.in-Ok.key ∷ []) in
    many_last (key_at c.args.depth) (length c.rest-index-end.result.now - c.loop-index._index)
    (length c.rest-index-end.result.now - (c.loop-index._index + 1)) c.loop-index.cursor c.key.new.cursor (tree_of c.in-Ok.key)
    (map tree_of c.loop-index.keys.items) _ (omega arith) c.in-Ok.ensures c.if-not-has.ensures.0 c.loop-index.invariant
    ∙ (ap (λ l. Some (l, c.key.new.cursor)) (sym grown)
    ∙ ap (λ r. Some (map tree_of c.push.new.self.items, r)) (sym c.if-not-has.ensures.1))

pub keys-loop-index-preserved : goal.keys-loop-index-preserved
keys-loop-index-preserved n c =
    let grown : map tree_of c.push.new.self.items ≡ map tree_of c.loop-index.keys.items ++ tree_of c.in-Ok.key ∷ []
    = ap (map tree_of) c.in_ok-push-in-Ok.ensures.items ∙ map-append tree_of c.loop-index.keys.items (c.in-Ok.key ∷ []) in
    rw grown (many_more (key_at c.args.depth) (length c.rest-index-end.result.now - c.loop-index._index)
    (length c.rest-index-end.result.now - (c.loop-index._index + 1)) c.loop-index.cursor c.key.new.cursor c.has.new.self
    (tree_of c.in-Ok.key) (map tree_of c.loop-index.keys.items) _ (omega arith) c.in-Ok.ensures c.if-not-has.ensures
    c.loop-index.invariant)
