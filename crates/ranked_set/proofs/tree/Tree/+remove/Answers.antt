use Rattle.std.proofs.Common.{◌≡◌, ◌∷◌, ◌++◌, length, sym, ap, ◌∙◌, arith}
use Rattle.std.specs.List.{remove}
use Rattle.ranked_set.specs.Nodes.{items}
use Rattle.ranked_set.proofs.Parts.{remove-right, remove-middle}
use Rattle.ranked_set.proofs.tree.Tree.+remove.Goals as goal

pub returns-then-index-len-2 : goal.returns-then-index-len-2
returns-then-index-len-2 g t c =
    let xs = c.in-Fork.left.value in
    let ys = c.in-Fork.right.value in
    let parts : c.args.self.now ≡ xs ++ c.in-Fork.field-1 ∷ ys = sym c.self.view_is ∙ ap items c.in-Fork.is in
    let less = remove-right xs c.in-Fork.field-1 ys c.args.index (omega (arith, c.len-len.ensures, ap length c.deref.ensures)) in
    rw (parts, less) (grind (arith, c.rebalance-then-index-len-2.ensures.items, c.remove-then-index-len-2.ensures))

pub returns-else-index-len-2 : goal.returns-else-index-len-2
returns-else-index-len-2 g t c =
    let xs = c.in-Fork.left.value in
    let ys = c.in-Fork.right.value in
    let parts : c.args.self.now ≡ xs ++ c.in-Fork.field-1 ∷ ys = sym c.self.view_is ∙ ap items c.in-Fork.is in
    let less = remove-middle xs c.in-Fork.field-1 ys c.args.index (omega (arith, c.len-len.ensures, ap length c.deref.ensures)) in
    rw (parts, less) (grind (arith, c.remove_top.ensures.items, c.in-Fork.is))
