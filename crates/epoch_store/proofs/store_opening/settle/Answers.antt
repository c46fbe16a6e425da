-- What is left while the disk is settled, and what is there then.
use Rattle.std.proofs.Common.{◌-◌, None, arith}
use Rattle.disk_model.specs.Disk.{Image}
use Rattle.disk_model.specs.Moments.{weaker}
use Rattle.root_slots.proofs.OneRoots.{looks_one}
use Rattle.root_slots.specs.Slots.{slot_number}
use Rattle.root_slots.specs.Spelling.{spelling}
use Rattle.root_change.specs.Texts.{StandsFor}
use Rattle.epoch_store.proofs.Readying.{read_root, still_root}
use Rattle.epoch_store.proofs.Settles.{found_image, listed_to_settle, settling_leaves, settled_told}
use Rattle.epoch_store.proofs.store_opening.settle.Goals as goal

pub returns-clause-crash : goal.returns-clause-crash
returns-clause-crash g c = λ texts found.
    let disk = c.args.disk.now in
    weaker g.D.Disk disk c.present_files.new.disk (Image (g.D.Disk.content disk)) (StandsFor c.args.root.now texts) c.present_files.ensures.reads.crash
    (λ image. found_image c.args.root.now (slot_number c.args.slot) texts (g.D.Disk.content disk) image found)

pub returns-in-Ok-sweep-clause-crash : goal.returns-in-Ok-sweep-clause-crash
returns-in-Ok-sweep-clause-crash g c = λ texts found.
    let root = c.args.root.now in
    let slot = slot_number c.args.slot in
    settling_leaves root slot texts _ found g.D.Disk c.args.disk.now c.present_files.new.disk c.sweep.new.disk c.present_files.ensures.reads.crash
    (c.sweep.ensures.crash texts (listed_to_settle root slot texts c.as_slice.result.now _ _ found c.present_files.ensures.reads.same (rw c.as_slice.ensures c.in-Ok.ensures.names)))

pub returns-in-Ok-clause-crash : goal.returns-in-Ok-clause-crash
returns-in-Ok-clause-crash g c = λ texts found.
    let root = c.args.root.now in
    let slot = slot_number c.args.slot in
    settling_leaves root slot texts _ found g.D.Disk c.args.disk.now c.present_files.new.disk c.sweep.new.disk c.present_files.ensures.reads.crash
    (c.sweep.ensures.crash texts (listed_to_settle root slot texts c.as_slice.result.now _ _ found c.present_files.ensures.reads.same (rw c.as_slice.ensures c.in-Ok.ensures.names)))

pub returns-in-Ok-sweep-clause-done : goal.returns-in-Ok-sweep-clause-done
returns-in-Ok-sweep-clause-done g c = λ texts found.
    c.in-Ok-sweep.ensures.done texts
    (listed_to_settle c.args.root.now (slot_number c.args.slot) texts c.as_slice.result.now _ _ found c.present_files.ensures.reads.same (rw c.as_slice.ensures c.in-Ok.ensures.names))

pub returns-in-Ok-sweep-clause-kept : goal.returns-in-Ok-sweep-clause-kept
returns-in-Ok-sweep-clause-kept g c =
    settled_told c.args.root.now (slot_number c.args.slot) c.as_slice.result.now (g.D.Disk.content c.args.disk.now) _ _ (rw c.as_slice.ensures c.in-Ok.ensures.names) c.present_files.ensures.reads.same c.in-Ok-sweep.ensures.swept

pub returns-clause-crash_root : goal.returns-clause-crash_root
returns-clause-crash_root g c = λ files_are. looks_one g.D.Disk (1 - slot_number c.args.slot) None c.args.disk.now c.present_files.new.disk c.present_files.ensures.reads.crash

pub returns-in-Ok-sweep-clause-crash_root : goal.returns-in-Ok-sweep-clause-crash_root
returns-in-Ok-sweep-clause-crash_root g c = λ files_are.
    let slot = slot_number c.args.slot in
    read_root g.D.Disk (1 - slot) None c.args.disk.now c.present_files.new.disk c.sweep.new.disk (omega arith) c.present_files.ensures.reads.same c.present_files.ensures.reads.crash
    (c.sweep.ensures.crash_root (still_root slot (spelling c.args.root.now) (g.D.Disk.content c.args.disk.now) (g.D.Disk.content c.present_files.new.disk) c.present_files.ensures.reads.same files_are))

pub returns-in-Ok-clause-crash_root : goal.returns-in-Ok-clause-crash_root
returns-in-Ok-clause-crash_root g c = λ files_are.
    let slot = slot_number c.args.slot in
    read_root g.D.Disk (1 - slot) None c.args.disk.now c.present_files.new.disk c.sweep.new.disk (omega arith) c.present_files.ensures.reads.same c.present_files.ensures.reads.crash
    (c.sweep.ensures.crash_root (still_root slot (spelling c.args.root.now) (g.D.Disk.content c.args.disk.now) (g.D.Disk.content c.present_files.new.disk) c.present_files.ensures.reads.same files_are))
