use Rattle.std.proofs.Common.{◌≡◌, length}
use Rattle.thread_index.specs.Lists.{PutsKey, list_at_key}
use Rattle.std.proofs.Common.{sym, subst, length}
use Rattle.thread_index.proofs.MapLists.{puts-key, takes-key, length-none}
use Rattle.std.proofs.Common.{sym, ◌∙◌, subst, length, arith}
use Rattle.std.proofs.lemmas.Bool.{eqb-true}
use Rattle.thread_index.proofs.lists.put_key.Goals as goal

-- src/lists.rt:75:9
pub returns-then-is_empty : goal.returns-then-is_empty
returns-then-is_empty c =
    let none : c.args.list.len ≡ 0 = eqb-true c.args.list.len 0 (sym c.is_empty.ensures ∙ c.if-is_empty.true) in
    let counted = c.args.list.ok.0 in
    let gone : length c.args.list.items ≡ 0 = omega arith in
    subst (PutsKey (list_at_key c.args.lists.now) (list_at_key c.remove.new.self) c.args.key.now) (sym (length-none c.args.list.items gone))
    (takes-key c.args.lists.now c.remove.new.self c.args.key.now c.remove.ensures.entries c.remove.ensures.updates.1)

-- src/lists.rt:64:1
pub returns : goal.returns
returns c = puts-key c.args.lists.now c.insert.new.self c.in_ok-key.key c.args.key.now c.args.list (c.in_ok-key.ensures.items_if_clones_equal (λ x y is. is)) c.in_ok-insert.ensures.entries
