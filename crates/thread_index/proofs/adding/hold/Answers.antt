use Rattle.std.proofs.Common.{◌≡◌, ◌∷◌, [], ℕ, List}
use Rattle.thread_index.specs.Adding.{HeldBy}
use Rattle.thread_index.specs.Lists.{list_at_key}
use Rattle.std.proofs.Common.{subst, ◌∙◌, get_or}
use Rattle.thread_index.proofs.Gathered.{held-take}
use Rattle.thread_index.proofs.adding.hold.Goals as goal

-- src/adding.rt:124:5
pub loop-key-preserved : goal.loop-key-preserved
loop-key-preserved c =
    let at : c.as_slice.result.now ≡ get_or c.args.keys.now c.loop-key.key-index c.key-item.result = c.as_slice.ensures ∙ c.key-item.is in
    held-take (list_at_key c.args.holders.now) (list_at_key c.loop-key.holders) (list_at_key c.hold_one.new.holders) c.args.keys.now c.loop-key.key-index c.key-item.result c.args.n c.loop-key-test.true c.loop-key.invariant
    (subst (λ (k : List ℕ). HeldBy (list_at_key c.loop-key.holders) (list_at_key c.hold_one.new.holders) (k ∷ []) c.args.n) at c.in_ok-hold_one.ensures)
