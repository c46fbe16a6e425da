-- One run for the map, one for the cache, and one for the epochs.
use Rattle.std.proofs.Common.{subst}
use Rattle.std.proofs.lemmas.Result.{on_ok_weaker}
use Rattle.disk_model.specs.declared.name.FileName.{FileName}
use Rattle.disk_model.specs.Disk.{BothTold}
use Rattle.disk_model.specs.BesideLaws.{run_joined}
use Rattle.root_change.specs.Names.{bounds_of}
use Rattle.root_change.specs.Replacing.{Dropped, IsOne}
use Rattle.root_change.proofs.Drops.{all_dropped}
use Rattle.root_change.proofs.replacing.drop_files.Goals as goal

pub returns-in_err-drop_file-2-clause-crash_beside : goal.returns-in_err-drop_file-2-clause-crash_beside
returns-in_err-drop_file-2-clause-crash_beside g c =
    run_joined g.D.Disk (bounds_of c.args.new.now) c.args.disk.now c.drop_file.new.disk c.drop_file-2.new.disk c.drop_file.ensures.crash_beside c.drop_file-2.ensures.crash_beside

pub returns-clause-crash_beside : goal.returns-clause-crash_beside
returns-clause-crash_beside g c =
    let bounds = bounds_of c.args.new.now in
    run_joined g.D.Disk bounds c.args.disk.now c.drop_file-2.new.disk c.drop_epochs.new.disk
    (run_joined g.D.Disk bounds c.args.disk.now c.drop_file.new.disk c.drop_file-2.new.disk c.drop_file.ensures.crash_beside c.drop_file-2.ensures.crash_beside)
    c.drop_epochs.ensures.crash_beside

pub returns-clause-dropped : goal.returns-clause-dropped
returns-clause-dropped g c =
    let content = g.D.Disk.content in
    let old = c.args.old.now in
    let new = c.args.new.now in
    let k0 = content c.args.disk.now in
    let k1 = content c.drop_file.new.disk in
    let k2 = content c.drop_file-2.new.disk in
    let map = subst (λ (n : FileName). BothTold (Dropped (IsOne n) old new) k0 k1) c.map_file.ensures c.in_ok-drop_file.ensures.dropped in
    let cache = subst (λ (n : FileName). BothTold (Dropped (IsOne n) old new) k1 k2) c.cache_file.ensures c.in_ok-drop_file-2.ensures.dropped in
    on_ok_weaker c.drop_epochs.result (all_dropped old new k0 k1 k2 (content c.drop_epochs.new.disk) map cache) c.drop_epochs.ensures.dropped
