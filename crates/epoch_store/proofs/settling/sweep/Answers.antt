-- The other slot is made ready, and the files are tidied.
use Rattle.std.proofs.Common.{◌-◌, None, arith}
use Rattle.std.proofs.lemmas.Result.{on_ok_weaker}
use Rattle.disk_model.specs.Moments.{weaker, joined}
use Rattle.root_slots.proofs.OneRoots.{joined_one}
use Rattle.root_slots.specs.Slots.{slot_number}
use Rattle.root_slots.specs.Spelling.{spelling}
use Rattle.root_change.specs.Texts.{StandsFor}
use Rattle.root_change.proofs.Phases.{beside_one}
use Rattle.epoch_store.specs.Settling.{StaysCurrent}
use Rattle.epoch_store.proofs.Settles.{to_settle_rests, readying_stands, tidy_ready, swept_told}
use Rattle.epoch_store.proofs.settling.sweep.Goals as goal

pub returns-in_err-ready_other-clause-crash : goal.returns-in_err-ready_other-clause-crash
returns-in_err-ready_other-clause-crash g c = λ texts todo.
    let disk = c.args.disk.now in
    let k0 = g.D.Disk.content disk in
    let root = c.args.root.now in
    let slot = slot_number c.args.slot in
    let names = c.args.names.now in
    weaker g.D.Disk disk c.ready_other.new.disk (StaysCurrent slot (spelling root) k0) (StandsFor root texts) (c.ready_other.ensures.crash (to_settle_rests root slot texts names k0 todo))
    (λ image. readying_stands root slot texts names k0 image todo)

pub returns-clause-crash : goal.returns-clause-crash
returns-clause-crash g c = λ texts todo.
    let disk = c.args.disk.now in
    let d1 = c.ready_other.new.disk in
    let k0 = g.D.Disk.content disk in
    let root = c.args.root.now in
    let slot = slot_number c.args.slot in
    let names = c.args.names.now in
    let files_are = to_settle_rests root slot texts names k0 todo in
    let ready = tidy_ready root slot texts names k0 (g.D.Disk.content d1) todo (c.in_ok-ready_other.ensures.done files_are) in
    joined g.D.Disk disk d1 c.tidy.new.disk (StaysCurrent slot (spelling root) k0) (StandsFor root texts) (StandsFor root texts) (c.ready_other.ensures.crash files_are) (c.tidy.ensures.crash (1 - slot) texts ready)
    (λ image. readying_stands root slot texts names k0 image todo)
    (λ image stands. stands)

pub returns-clause-done : goal.returns-clause-done
returns-clause-done g c = λ texts todo.
    let k0 = g.D.Disk.content c.args.disk.now in
    let root = c.args.root.now in
    let slot = slot_number c.args.slot in
    let names = c.args.names.now in
    let files_are = to_settle_rests root slot texts names k0 todo in
    c.tidy.ensures.done (1 - slot) texts (tidy_ready root slot texts names k0 (g.D.Disk.content c.ready_other.new.disk) todo (c.in_ok-ready_other.ensures.done files_are))

pub returns-clause-swept : goal.returns-clause-swept
returns-clause-swept g c =
    let content = g.D.Disk.content in
    on_ok_weaker c.tidy.result (swept_told c.args.root.now (slot_number c.args.slot) c.args.names.now (content c.args.disk.now) (content c.ready_other.new.disk) (content c.tidy.new.disk) c.in_ok-ready_other.ensures.readies) c.tidy.ensures.tidied

pub returns-clause-crash_root : goal.returns-clause-crash_root
returns-clause-crash_root g c = λ files_are.
    let disk = c.args.disk.now in
    let d1 = c.ready_other.new.disk in
    let free = 1 - slot_number c.args.slot in
    joined_one g.D.Disk free None disk d1 c.tidy.new.disk (omega arith) (c.ready_other.ensures.crash_root files_are) (c.in_ok-ready_other.ensures.went files_are)
    (beside_one g.D.Disk c.args.root.now free None d1 c.tidy.new.disk c.tidy.ensures.crash_beside)
