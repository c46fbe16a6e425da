use Rattle.std.proofs.Common.{◌<◌}
use Rattle.std.proofs.Common.{sym, subst}
use Rattle.thread_tree.proofs.Unders.{under-more}
use Rattle.thread_tree.proofs.Stepped.{jump-is, flag-is}
use Rattle.thread_tree.proofs.forest.under_lists.Goals as goal

-- src/forest.rt:53:5
pub loop-i-preserved : goal.loop-i-preserved
loop-i-preserved c =
    under-more c.args.ups.now c.args.flags.now c.loop-i.lists.items c.place.new.lists.items c.loop-i.i _ _
    (jump-is c.args.ups.now c.loop-i.i c.loop-i-test.true)
    (flag-is c.args.flags.now c.loop-i.i (subst (λ n. c.loop-i.i < n) (sym c.requires) c.loop-i-test.true))
    c.loop-i.invariant c.in_ok-place.ensures
