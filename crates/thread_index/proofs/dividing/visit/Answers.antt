use Rattle.std.proofs.Common.{ℕ, List}
use Rattle.thread_index.specs.Lists.{list_at_key}
use Rattle.thread_index.specs.Taking.{HoldsOne, MovesPending, SharesKey}
use Rattle.std.proofs.Common.{sym, subst}
use Rattle.thread_model.proofs.Entries.{lookup-among, lookup-none}
use Rattle.thread_index.proofs.Moved.{moves-idle, row-shares}
use Rattle.thread_index.proofs.dividing.visit.Goals as goal

-- src/dividing.rt:110:9
pub returns-in_default-clause-moves : goal.returns-in_default-clause-moves
returns-in_default-clause-moves c =
    moves-idle (SharesKey c.args.rows.now.entries (list_at_key c.args.holders.now) c.args.n) c.args.pending.now.keys c.args.part.now.items c.requires.once
    (λ x h p. lookup-none c.args.rows.now.entries c.args.n (sym c.in_default.ensures.value) h.0 h.2 h.3)

-- src/dividing.rt:93:1
pub returns-clause-moves : goal.returns-clause-moves
returns-clause-moves c =
    row-shares c.args.rows.now.entries (list_at_key c.args.holders.now) c.args.n c.in-Some.keys.now c.args.pending.now.keys c.visit_keys.new.pending.keys c.args.part.now.items c.visit_keys.new.part.items c.requires.held
    (lookup-among c.args.rows.now.entries c.args.n c.in-Some.keys.now (sym c.in-Some.ensures.value))
    (subst (λ (ks : List (List ℕ)). MovesPending (HoldsOne (list_at_key c.args.holders.now) ks) c.args.pending.now.keys c.visit_keys.new.pending.keys c.args.part.now.items c.visit_keys.new.part.items) c.as_slice.ensures c.in_ok-visit_keys.ensures.moves)
