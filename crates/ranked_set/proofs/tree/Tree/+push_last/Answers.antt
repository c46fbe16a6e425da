use Rattle.std.proofs.Common.{◌≡◌, ◌∷◌, ◌++◌, length, refl, sym, ap, ◌∙◌}
use Rattle.std.proofs.lemmas.Result.{on_ok_weaker}
use Rattle.ranked_set.specs.Nodes.{items}
use Rattle.ranked_set.specs.Windows.{after}
use Rattle.ranked_set.proofs.Parts.{seen-pushed}
use Rattle.ranked_set.proofs.tree.Tree.+push_last.Goals as goal

pub returns-in_ok-push_item-in-Fork : goal.returns-in_ok-push_item-in-Fork
returns-in_ok-push_item-in-Fork g t c =
    let xs = c.in-Fork.left.value in
    let ys = c.in-Fork.right.value in
    let parts : c.args.self.now ≡ xs ++ c.in-Fork.item ∷ ys = sym c.self.view_is ∙ ap items c.in-Fork.is in
    let here : c.after-here.result ≡ after c.args.window (length ys) = cc (c.after-here.ensures, c.len.ensures, c.deref-in-Fork.ensures) in
    let next : c.after.result ≡ after c.after-here.result 1 = c.after.ensures in
    rw parts (on_ok_weaker c.push_last-in-Fork.result
    (λ pushed. seen-pushed c.args.window c.after-here.result c.after.result xs c.in-Fork.item ys c.args.into.now.items c.push_last.new.into.items c.push_item.new.into.items _ here next
    (rw c.deref.ensures at c.in_ok-push_last-in-Fork.ensures) c.in_ok-push_item-in-Fork.ensures (rw c.deref-in-Fork-2.ensures at pushed))
    c.push_last-in-Fork.ensures)
