use Rattle.std.proofs.Common.{◌≡◌, ◌++◌, ◌∷◌, [], ℕ, List}
use Rattle.thread_index.specs.Lists.{list_at_key}
use Rattle.std.proofs.Common.{subst, ap, ◌∙◌}
use Rattle.thread_index.specs.Lists.{PutsKey}
use Rattle.thread_index.proofs.MapLists.{keys-again}
use Rattle.thread_index.proofs.Gathered.{held-one}
use Rattle.thread_index.proofs.adding.hold_one.Goals as goal

-- src/adding.rt:105:1
pub returns : goal.returns
returns c =
    let old = list_at_key c.args.holders.now in
    let mid = list_at_key c.take_key-list.new.lists in
    let new = list_at_key c.put_key.new.lists in
    let key = c.args.key.now in
    let item : c.push.new.self.items ≡ old key ++ c.args.n ∷ [] = c.in_ok-push.ensures.items ∙ ap (λ (ns : List ℕ). ns ++ c.args.n ∷ []) c.take_key-list.ensures.list in
    held-one old new key c.args.n (keys-again old mid new key [] (old key ++ c.args.n ∷ []) c.take_key-list.ensures.rest (subst (PutsKey mid new key) item c.in_ok-put_key.ensures))
