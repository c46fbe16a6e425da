use Rattle.std.proofs.Common.{◌≡◌, ℕ, List}
use Rattle.thread_index.specs.Lists.{list_at_key}
use Rattle.thread_index.specs.Taking.{MovesPending}
use Rattle.thread_model.specs.Members.{Among}
use Rattle.std.proofs.Common.{◌∙◌, subst, get_or}
use Rattle.thread_index.proofs.Moved.{keys-take}
use Rattle.thread_index.proofs.dividing.visit_keys.Goals as goal

-- src/dividing.rt:86:5
pub loop-key-preserved : goal.loop-key-preserved
loop-key-preserved c =
    let at : c.as_slice.result.now ≡ get_or c.args.keys.now c.loop-key.key-index c.key-item.result = c.as_slice.ensures ∙ c.key-item.is in
    record {
      moves = keys-take (list_at_key c.args.holders.now) c.args.keys.now c.loop-key.key-index c.key-item.result c.args.pending.now.keys c.loop-key.pending.keys c.visit_key.new.pending.keys c.args.part.now.items c.loop-key.part.items c.visit_key.new.part.items c.loop-key-test.true c.loop-key.invariant.moves
          (subst (λ (k : List ℕ). MovesPending (Among (list_at_key c.args.holders.now k)) c.loop-key.pending.keys c.visit_key.new.pending.keys c.loop-key.part.items c.visit_key.new.part.items) at c.in_ok-visit_key.ensures.moves);
      seen = c.in_ok-visit_key.ensures.seen;
    }
