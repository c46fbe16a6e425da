-- One step for the files that are removed, one for the root file, and one for the root.
use Rattle.std.proofs.lemmas.Result.{on_ok_weaker}
use Rattle.disk_model.specs.Moments.{joined}
use Rattle.root_slots.specs.Spelling.{spelling}
use Rattle.epoch_store.specs.First.{MakesRoot}
use Rattle.epoch_store.proofs.Making.{shut_fewer, shut_removed, shut_begun, first_step, only_on_ok, told_through}
use Rattle.epoch_store.proofs.first.make.Goals as goal

pub returns-in_err-begin-clause-crash : goal.returns-in_err-begin-clause-crash
returns-in_err-begin-clause-crash g c = λ shut.
    let disk = c.args.disk.now in
    let mid = c.remove_files.new.disk in
    let k0 = g.D.Disk.content disk in
    let k1 = g.D.Disk.content mid in
    let body = spelling c.args.root.now in
    let names = c.args.names.now in
    let removed = c.in_ok-remove_files.ensures.done in
    joined g.D.Disk disk mid c.begin.new.disk _ _ (MakesRoot body k0) c.remove_files.ensures.crash (c.begin.ensures.crash (shut_removed body names k0 k1 shut removed))
    (λ image. shut_fewer body names k0 image shut)
    (λ image. shut_begun body names k0 k1 image removed)

pub returns-clause-crash : goal.returns-clause-crash
returns-clause-crash g c = λ shut.
    let disk = c.args.disk.now in
    let mid = c.remove_files.new.disk in
    let begun = c.begin.new.disk in
    let k0 = g.D.Disk.content disk in
    let k1 = g.D.Disk.content mid in
    let k2 = g.D.Disk.content begun in
    let body = spelling c.args.root.now in
    let names = c.args.names.now in
    let removed = c.in_ok-remove_files.ensures.done in
    let first = joined g.D.Disk disk mid begun _ _ (MakesRoot body k0) c.remove_files.ensures.crash (c.begin.ensures.crash (shut_removed body names k0 k1 shut removed))
    (λ image. shut_fewer body names k0 image shut)
    (λ image. shut_begun body names k0 k1 image removed) in
    first_step g.D.Disk disk mid begun c.raise_first.new.disk body names k0 k1 k2 removed c.in_ok-begin.ensures.made first c.raise_first.ensures.crash c.raise_first.ensures.time

pub returns-clause-done : goal.returns-clause-done
returns-clause-done g c = λ all some.
    let k0 = g.D.Disk.content c.args.disk.now in
    let k1 = g.D.Disk.content c.remove_files.new.disk in
    let k2 = g.D.Disk.content c.begin.new.disk in
    let k3 = g.D.Disk.content c.raise_first.new.disk in
    let body = spelling c.args.root.now in
    let names = c.args.names.now in
    only_on_ok c.raise_first.result body names k0 k1 k2 k3 all c.in_ok-remove_files.ensures.done c.in_ok-begin.ensures.made c.raise_first.ensures.committed (λ zeros. c.raise_first.ensures.done zeros some) c.raise_first.ensures.written

pub returns-clause-told : goal.returns-clause-told
returns-clause-told g c =
    let content = g.D.Disk.content in
    on_ok_weaker c.raise_first.result (told_through (spelling c.args.root.now) c.args.names.now (content c.args.disk.now) (content c.remove_files.new.disk) (content c.begin.new.disk) (content c.raise_first.new.disk) c.in_ok-remove_files.ensures.done c.in_ok-begin.ensures.made) c.raise_first.ensures.committed
