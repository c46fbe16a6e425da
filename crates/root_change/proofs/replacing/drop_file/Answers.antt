-- A removal respects the bounds of the new root, and so does no call at all.
use Rattle.std.proofs.Common.{◌∙◌, sym}
use Rattle.std.proofs.lemmas.Result.{on_ok_weaker}
use Rattle.disk_model.specs.BesideLaws.{remove_told, run_started, run_call}
use Rattle.root_change.specs.Names.{bounds_of}
use Rattle.root_change.proofs.Drops.{dropped_bound, stays_there, removed_there}
use Rattle.root_change.proofs.replacing.drop_file.Goals as goal

pub returns-then-is_dropped-clause-crash_beside : goal.returns-then-is_dropped-clause-crash_beside
returns-then-is_dropped-clause-crash_beside g c =
    let disk = c.args.disk.now in
    let new = c.args.new.now in
    let bounds = bounds_of new in
    let is = sym c.is_dropped.ensures ∙ c.if-is_dropped.true in
    run_call g.D.Disk bounds disk c.remove.new.self (g.met.D.Disk.only_now disk) c.remove.ensures.time
    (remove_told c.remove.result bounds c.args.name (g.D.Disk.content disk) (g.D.Disk.content c.remove.new.self) (g.met.D.Disk.reads_fit disk) (dropped_bound c.args.old.now new c.args.name is) c.remove.ensures.removed c.remove.ensures.torn)

pub returns-then-is_dropped-clause-dropped : goal.returns-then-is_dropped-clause-dropped
returns-then-is_dropped-clause-dropped g c =
    on_ok_weaker c.remove.result (removed_there c.args.old.now c.args.new.now c.args.name (g.D.Disk.content c.args.disk.now) (g.D.Disk.content c.remove.new.self) (sym c.is_dropped.ensures ∙ c.if-is_dropped.true)) c.remove.ensures.removed

pub returns-clause-crash_beside : goal.returns-clause-crash_beside
returns-clause-crash_beside g c =
    let disk = c.args.disk.now in
    run_started g.D.Disk (bounds_of c.args.new.now) disk (g.met.D.Disk.only_now disk)

pub returns-clause-dropped : goal.returns-clause-dropped
returns-clause-dropped g c = stays_there c.args.old.now c.args.new.now c.args.name (g.D.Disk.content c.args.disk.now) (sym c.is_dropped.ensures ∙ c.if-is_dropped.false)
