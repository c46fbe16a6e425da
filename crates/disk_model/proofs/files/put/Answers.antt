-- A write to a file that is there, and one that creates it.
use Rattle.std.proofs.lemmas.Result.{on_ok_weaker, on_err_weaker}
use Rattle.disk_model.proofs.FileMaps.{put_found, put_same, put_missing}
use Rattle.disk_model.proofs.files.put.Goals as goal

pub returns-in-Some-clause-ok : goal.returns-in-Some-clause-ok
returns-in-Some-clause-ok c =
    on_ok_weaker c.patch.result (put_found c.args.files.now (c.get_mut.follows.lender c.patch.new.file) c.args.name c.in-Some.file.now c.patch.new.file c.args.offset c.args.bytes.now c.in-Some.ensures.value (c.get_mut.follows.holds c.patch.new.file)) c.patch.ensures.ok

pub returns-in-Some-clause-err : goal.returns-in-Some-clause-err
returns-in-Some-clause-err c =
    on_err_weaker c.patch.result (put_same c.args.files.now (c.get_mut.follows.lender c.patch.new.file) c.args.name c.in-Some.file.now c.patch.new.file c.in-Some.ensures.value (c.get_mut.follows.holds c.patch.new.file)) c.patch.ensures.err

pub returns-in_ok-insert-in-None-clause-ok : goal.returns-in_ok-insert-in-None-clause-ok
returns-in_ok-insert-in-None-clause-ok c =
    put_missing c.get_mut.follows.lender-at-none c.args.files.now c.insert.new.self c.args.name c.in_ok-file-in-None.file c.args.offset c.args.bytes.now c.get_mut.follows.holds-at-none c.in-None.ensures.value c.in_ok-insert-in-None.ensures.updates
    (c.in_ok-file-in-None.ensures.items_if_clones_equal (λ x y same. same))
