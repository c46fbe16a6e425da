use Rattle.std.proofs.Common.{◌≡◌, length, ◌+◌, ◌<◌, ◌≤◌}
use Rattle.thread_tree.specs.Nodes.{under_at}
use Rattle.std.proofs.Common.{arith, ◌<◌, sym, ap, ◌∙◌}
use Rattle.std.proofs.lemmas.List.{length_push}
use Rattle.thread_tree.proofs.Preorder.{walk-begins, walk-ends, walk-more, walk-room, walk-short}
use Rattle.thread_tree.proofs.Stepped.{none-by-length}
use Rattle.thread_tree.proofs.forest.preorder.Goals as goal

-- src/forest.rt:93:5
pub loop-depth-init : goal.loop-depth-init
loop-depth-init c = walk-begins (under_at c.args.under.now) c.args.roots.now (length c.args.under.now) c.new-lines.result.items c.new-stack.result.items c.push_all.new.stack.items c.requires c.new-lines.ensures.items c.new-stack.ensures.items c.in_ok-push_all.ensures

-- src/forest.rt:95:30
pub overflow_add-depth : goal.overflow_add-depth
overflow_add-depth c =
    let room = walk-room (under_at c.args.under.now) c.args.roots.now (length c.args.under.now) c.loop-depth.lines.items c.loop-depth.stack.items c.pop.new.self.items c.in-Some.depth c.in-Some.i c.loop-depth.invariant c.in-Some.ensures.items in
    let deep : c.in-Some.depth ≤ length c.loop-depth.lines.items = room.1 in
    let counted = c.loop-depth.lines.ok.0 in
    let within = c.loop-depth.lines.ok.1 in
    let small = c.loop-depth.lines.small in
    let fits : c.in-Some.depth + 1 < 18446744073709551616 = omega arith in
    record { fits = fits }

-- src/forest.rt:93:5
pub loop-depth-smaller : goal.loop-depth-smaller
loop-depth-smaller c =
    let room = walk-room (under_at c.args.under.now) c.args.roots.now (length c.args.under.now) c.loop-depth.lines.items c.loop-depth.stack.items c.pop.new.self.items c.in-Some.depth c.in-Some.i c.loop-depth.invariant c.in-Some.ensures.items in
    let long : length c.loop-depth.lines.items < length c.args.under.now = room.0 in
    let more : length c.push.new.self.items ≡ length c.loop-depth.lines.items + 1 = ap length c.in_ok-push.ensures.items ∙ length_push c.loop-depth.lines.items (c.in-Some.depth, c.in-Some.i) in
    omega arith

-- src/forest.rt:93:5
pub loop-depth-preserved : goal.loop-depth-preserved
loop-depth-preserved c =
    walk-more (under_at c.args.under.now) c.args.roots.now (length c.args.under.now) c.loop-depth.lines.items c.loop-depth.stack.items c.pop.new.self.items c.push.new.self.items c.push_all-in-Some.new.stack.items c.in-Some.depth c.in-Some.i c.list_under.result.now
    c.requires c.loop-depth.invariant c.in-Some.ensures.items c.in_ok-push.ensures.items c.list_under.ensures c.in_ok-push_all-2.ensures

-- src/forest.rt:82:1
pub returns-clause-walks : goal.returns-clause-walks
returns-clause-walks c =
    let gone : c.loop-depth.stack.len ≡ 0 = c.in_default.ensures.cases.0 in
    let counted : c.loop-depth.stack.len ≡ length c.loop-depth.stack.items = c.loop-depth.stack.ok.0 in
    walk-ends (under_at c.args.under.now) c.args.roots.now (length c.args.under.now) c.loop-depth.lines.items c.loop-depth.stack.items c.loop-depth.invariant
    (none-by-length c.loop-depth.stack.items (sym counted ∙ gone))

pub returns-clause-few : goal.returns-clause-few
returns-clause-few c = walk-short (under_at c.args.under.now) c.args.roots.now (length c.args.under.now) c.loop-depth.lines.items c.loop-depth.stack.items c.loop-depth.invariant
