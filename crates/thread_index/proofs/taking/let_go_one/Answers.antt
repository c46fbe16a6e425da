use Rattle.std.proofs.Common.{◌≡◌, []}
use Rattle.thread_index.specs.Lists.{list_at_key}
use Rattle.thread_index.specs.Taking.{all_but}
use Rattle.std.proofs.Common.{subst, ap, ◌∙◌}
use Rattle.thread_index.specs.Lists.{PutsKey}
use Rattle.thread_index.proofs.MapLists.{keys-again}
use Rattle.thread_index.proofs.Others.{let-one}
use Rattle.thread_index.proofs.taking.let_go_one.Goals as goal

-- src/taking.rt:41:1
pub returns : goal.returns
returns c =
    let old = list_at_key c.args.holders.now in
    let mid = list_at_key c.take_key-list.new.lists in
    let new = list_at_key c.put_key.new.lists in
    let key = c.args.key.now in
    let item : c.leave.new.list.items ≡ all_but c.args.n (old key) = c.leave.ensures ∙ ap (all_but c.args.n) c.take_key-list.ensures.list in
    let-one old new key c.args.n (keys-again old mid new key [] (all_but c.args.n (old key)) c.take_key-list.ensures.rest (subst (PutsKey mid new key) item c.in_ok-put_key.ensures))
