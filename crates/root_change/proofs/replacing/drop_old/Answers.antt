-- The sync keeps what was dropped.
use Rattle.std.proofs.lemmas.Result.{on_ok_weaker}
use Rattle.disk_model.specs.BesideLaws.{sync_told, run_on}
use Rattle.root_change.specs.Names.{bounds_of}
use Rattle.root_change.proofs.Drops.{dropped_synced}
use Rattle.root_change.proofs.replacing.drop_old.Goals as goal

pub returns-clause-crash_beside : goal.returns-clause-crash_beside
returns-clause-crash_beside g c =
    let bounds = bounds_of c.args.new.now in
    let d1 = c.drop_files.new.disk in
    let content = g.D.Disk.content in
    run_on g.D.Disk bounds c.args.disk.now d1 c.sync.new.self c.drop_files.ensures.crash_beside c.sync.ensures.time
    (sync_told c.sync.result bounds (content d1) (content c.sync.new.self) (g.met.D.Disk.reads_fit d1) c.sync.ensures.durable c.sync.ensures.torn)

pub returns-clause-dropped : goal.returns-clause-dropped
returns-clause-dropped g c =
    let content = g.D.Disk.content in
    on_ok_weaker c.sync.result (dropped_synced c.args.old.now c.args.new.now (content c.args.disk.now) (content c.drop_files.new.disk) (content c.sync.new.self) c.in_ok-drop_files.ensures.dropped) c.sync.ensures.durable
