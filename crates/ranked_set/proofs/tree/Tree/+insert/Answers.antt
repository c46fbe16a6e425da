use Rattle.std.proofs.Common.{◌≡◌, ◌∷◌, ◌++◌, length, sym, ap, ◌∙◌, arith}
use Rattle.std.specs.List.{insert}
use Rattle.std.proofs.lemmas.List.Edits.{insert-append_left}
use Rattle.ranked_set.specs.Nodes.{items}
use Rattle.ranked_set.proofs.Parts.{insert-right}
use Rattle.ranked_set.proofs.tree.Tree.+insert.Goals as goal
use Rattle.ranked_set.proofs.tree.Tree.+insert.Goals.{then-index-len+in_ok-insert-in-Fork, else-index-len+in_ok-insert-in-Fork-2}

pub returns : goal.returns
returns g t c =
    let xs = c.in-Fork.left.value in
    let ys = c.in-Fork.right.value in
    let parts : c.args.self.now ≡ xs ++ c.in-Fork.field-1 ∷ ys = sym c.self.view_is ∙ ap items c.in-Fork.is in
    elim c.if-index-len.branch [
      | then-index-len+in_ok-insert-in-Fork w ↦
          let more = insert-append_left xs (c.in-Fork.field-1 ∷ ys) c.args.index c.args.item (omega (arith, c.len-len.ensures, ap length c.deref.ensures, w.if-index-len.true)) in
          rw (parts, more) (grind (arith, w.self-inside-is, w.in_ok-insert-in-Fork.ensures, c.rebalance.ensures.items))
      | else-index-len+in_ok-insert-in-Fork-2 w ↦
          let more = insert-right xs c.in-Fork.field-1 ys c.args.index c.args.item (omega (arith, c.len-len.ensures, ap length c.deref.ensures, w.if-index-len.false)) in
          rw (parts, more) (grind (arith, w.self-inside-is, w.in_ok-insert-in-Fork-2.ensures, c.rebalance.ensures.items))
    ]
