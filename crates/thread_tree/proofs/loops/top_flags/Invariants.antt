use Rattle.std.proofs.Common.{◌≡◌, map, take, is_none}
use Rattle.thread_tree.proofs.loops.top_flags.Given as goal

abbrev pub invariant-loop-up : goal.invariant-loop-up
invariant-loop-up l = l.flags.items ≡ map is_none (take l.up-index l.ups)
