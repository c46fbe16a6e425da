use Rattle.std.proofs.Common.{ℕ, List}
use Rattle.thread_index.specs.Lists.{list_at_key}
use Rattle.thread_index.specs.Taking.{MovesPending}
use Rattle.thread_model.specs.Members.{Among}
use Rattle.std.proofs.Common.{sym, ◌∙◌}
use Rattle.thread_index.proofs.Moved.{moves-idle, seen-less, seen-more}
use Rattle.std.proofs.Common.{subst}
use Rattle.thread_index.proofs.dividing.visit_key.Goals as goal

-- src/dividing.rt:63:9
pub returns-then-contains-clause-moves : goal.returns-then-contains-clause-moves
returns-then-contains-clause-moves c = moves-idle (Among (list_at_key c.args.holders.now c.args.key.now)) c.args.pending.now.keys c.args.part.now.items c.requires.once (c.requires.seen.shut c.args.key.now (sym c.contains.ensures ∙ c.if-contains.true))

-- src/dividing.rt:48:1
pub returns-clause-seen : goal.returns-clause-seen
returns-clause-seen c =
    let moves = subst (λ (ns : List ℕ). MovesPending (Among ns) c.args.pending.now.keys c.move_all.new.pending.keys c.args.part.now.items c.move_all.new.part.items) c.list_of_key.ensures c.in_ok-move_all.ensures in
    seen-more c.args.seen.now c.insert.new.self (list_at_key c.args.holders.now) c.move_all.new.pending.keys c.in_ok-key.key c.args.key.now
    (c.in_ok-key.ensures.items_if_clones_equal (λ x y is. is)) c.in_ok-insert.ensures.keys
    (seen-less c.args.seen.now (list_at_key c.args.holders.now) c.args.pending.now.keys c.move_all.new.pending.keys c.requires.seen moves.less)
    moves.gone
