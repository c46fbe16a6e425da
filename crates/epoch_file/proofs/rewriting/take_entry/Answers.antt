-- The entry was left out, or stays.
use Rattle.std.proofs.lemmas.Result.{err_from_is_err_and}
use Rattle.epoch_file.proofs.Rewritten.{taken_kept, taken_left, taken_refused}
use Rattle.epoch_file.proofs.rewriting.take_entry.Goals as goal

pub returns-then-leaves-clause-taken : goal.returns-then-leaves-clause-taken
returns-then-leaves-clause-taken g c = taken_left c.args.plan.now c.leave_out.new.self c.args.entry.now c.args.leaves (g.D.Disk.content c.args.disk.now) c.if-leaves.true c.in_ok-leave_out.ensures.left

pub returns-in_err-keep-clause-taken : goal.returns-in_err-keep-clause-taken
returns-in_err-keep-clause-taken g c =
    let p = err_from_is_err_and c.from_residual-in_err-keep.result c.from_residual-in_err-keep.ensures.1 in
    rw (p.1, p.2) (taken_refused c.args.plan.now c.keep.new.self c.args.entry.now c.args.leaves c.in_err-keep.field-0.0 (g.D.Disk.content c.args.disk.now) c.in_err-keep.ensures.kept)

pub returns-clause-taken : goal.returns-clause-taken
returns-clause-taken g c = taken_kept c.args.plan.now c.keep.new.self c.args.entry.now c.in_ok-keep.field-0 c.args.leaves (g.D.Disk.content c.args.disk.now) c.if-leaves.false c.in_ok-keep.ensures.kept
