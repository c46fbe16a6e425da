use Rattle.std.proofs.Common.{◌≡◌, ◌∷◌, [], ℕ, List}
use Rattle.thread_index.specs.Lists.{list_at_key}
use Rattle.thread_index.specs.Taking.{LetGo}
use Rattle.std.proofs.Common.{subst, ◌∙◌, get_or}
use Rattle.thread_index.proofs.Others.{let-take}
use Rattle.thread_index.proofs.taking.let_go.Goals as goal

-- src/taking.rt:60:5
pub loop-key-preserved : goal.loop-key-preserved
loop-key-preserved c =
    let at : c.as_slice.result.now ≡ get_or c.args.keys.now c.loop-key.key-index c.key-item.result = c.as_slice.ensures ∙ c.key-item.is in
    let-take (list_at_key c.args.holders.now) (list_at_key c.loop-key.holders) (list_at_key c.let_go_one.new.holders) c.args.keys.now c.loop-key.key-index c.key-item.result c.args.n c.loop-key-test.true c.loop-key.invariant
    (subst (λ (k : List ℕ). LetGo (list_at_key c.loop-key.holders) (list_at_key c.let_go_one.new.holders) (k ∷ []) c.args.n) at c.in_ok-let_go_one.ensures)
