use Rattle.std.proofs.Common.{◌≡◌, ◌+◌, ◌∷◌, ◌++◌, length, true, false, sym, ap, ◌∙◌, arith, length-append}
use Rattle.std.specs.Ordering.{is_lt}
use Rattle.ranked_set.specs.Nodes.{items}
use Rattle.ranked_set.proofs.SortedKeys.{less-of, sorted_sides, rank-left, rank-right}
use Rattle.ranked_set.proofs.tree.Tree.+rank.Goals as goal

pub rank-requires : goal.rank-requires
rank-requires g t c κs within =
    let parts : c.args.self.now ≡ c.in-Fork.left.value ++ c.in-Fork.item ∷ c.in-Fork.right.value = sym c.self.view_is ∙ ap items c.in-Fork.is in
    let sides = sorted_sides g.T.Ord.cmp c.args.self.now c.in-Fork.left.value c.in-Fork.item c.in-Fork.right.value parts c.requires in (
      omega (arith, c.decreases, ap length c.deref-then-is_lt.ensures, ap length parts, length-append c.in-Fork.left.value (c.in-Fork.item ∷ c.in-Fork.right.value)),
      (within, rw c.deref-then-is_lt.ensures sides.1),
    )

pub rank-requires-else-is_lt : goal.rank-requires-else-is_lt
rank-requires-else-is_lt g t c κs within =
    let parts : c.args.self.now ≡ c.in-Fork.left.value ++ c.in-Fork.item ∷ c.in-Fork.right.value = sym c.self.view_is ∙ ap items c.in-Fork.is in
    let sides = sorted_sides g.T.Ord.cmp c.args.self.now c.in-Fork.left.value c.in-Fork.item c.in-Fork.right.value parts c.requires in (
      omega (arith, c.decreases, ap length c.deref-else-is_lt.ensures, ap length parts, length-append c.in-Fork.left.value (c.in-Fork.item ∷ c.in-Fork.right.value)),
      (within, rw c.deref-else-is_lt.ensures sides.0),
    )

pub returns-then-is_lt-clause-value : goal.returns-then-is_lt-clause-value
returns-then-is_lt-clause-value g t c =
    let xs = c.in-Fork.left.value in
    let ys = c.in-Fork.right.value in
    let parts : c.args.self.now ≡ xs ++ c.in-Fork.item ∷ ys = sym c.self.view_is ∙ ap items c.in-Fork.is in
    let test : is_lt (g.T.Ord.cmp c.in-Fork.item c.args.key.now) ≡ true = cc (c.cmp.ensures, c.is_lt.ensures, c.if-is_lt.true) in
    let less = less-of _ test in
    let whole = rank-right g.met.T.Ord.total c.args.key.now xs c.in-Fork.item ys (rw parts at c.requires) less in
    let size = length-append xs (c.in-Fork.item ∷ ys) in
    let right : c.len-then-is_lt.result ≡ length ys = c.len-then-is_lt.ensures ∙ ap length c.deref.ensures in
    let below = rw c.deref-then-is_lt.ensures at c.rank.ensures.value in
    rw (parts, whole) (omega (arith, size, c.len.ensures, ap length parts, right, below))

pub returns-else-is_lt-clause-value : goal.returns-else-is_lt-clause-value
returns-else-is_lt-clause-value g t c =
    let xs = c.in-Fork.left.value in
    let ys = c.in-Fork.right.value in
    let parts : c.args.self.now ≡ xs ++ c.in-Fork.item ∷ ys = sym c.self.view_is ∙ ap items c.in-Fork.is in
    let test : is_lt (g.T.Ord.cmp c.in-Fork.item c.args.key.now) ≡ false = cc (c.cmp.ensures, c.is_lt.ensures, c.if-is_lt.false) in
    let whole = rank-left g.T.Ord.cmp c.args.key.now xs c.in-Fork.item ys test in
    rw (parts, whole) (rw c.deref-else-is_lt.ensures at c.rank-else-is_lt.ensures.value)
