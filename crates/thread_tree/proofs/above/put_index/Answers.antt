use Rattle.thread_tree.proofs.Stepped.{value-after}
use Rattle.thread_tree.proofs.above.put_index.Goals as goal

-- src/above.rt:17:1
pub returns-clause-ok : goal.returns-clause-ok
returns-clause-ok c = value-after c.args.index.now c.insert.new.self c.in_ok-key.key c.args.id.now c.args.i (c.in_ok-key.ensures.items_if_clones_equal (λ x y is. is)) c.in_ok-insert.ensures.entries
