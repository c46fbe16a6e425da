-- One step for each of the three writes.
use Rattle.std.proofs.lemmas.Result.{on_ok_weaker}
use Rattle.disk_model.specs.Moments.{joined, weaker}
use Rattle.root_slots.specs.Spelling.{spelling}
use Rattle.root_slots.specs.Slots.{slot_number, slot_below}
use Rattle.root_slots.proofs.Commits.{during_shut, during_fill, during_raise, has_new_root, others_kept}
use Rattle.root_slots.proofs.slots.write_slot.Goals as goal

pub returns-in_err-shut-clause-crash : goal.returns-in_err-shut-clause-crash
returns-in_err-shut-clause-crash g c =
    weaker g.D.Disk c.args.disk.now c.shut.new.disk _ _ c.shut.ensures.crash
    (λ image. during_shut (slot_number c.args.slot) (spelling c.args.root.now) (slot_below c.args.slot) _ image (g.met.D.Disk.reads_fit c.args.disk.now) c.requires.size)

pub returns-in_err-fill-clause-crash : goal.returns-in_err-fill-clause-crash
returns-in_err-fill-clause-crash g c =
    let slot = slot_number c.args.slot in
    let body = spelling c.args.root.now in
    let fit = g.met.D.Disk.reads_fit c.args.disk.now in
    joined g.D.Disk c.args.disk.now c.shut.new.disk c.fill.new.disk _ _ _ c.shut.ensures.crash c.fill.ensures.crash
    (λ image. during_shut slot body (slot_below c.args.slot) _ image fit c.requires.size)
    (λ image. during_fill slot body (slot_below c.args.slot) _ _ image fit (g.met.D.Disk.reads_fit c.shut.new.disk) c.requires.size c.in_ok-shut.ensures.written)

pub returns-clause-crash : goal.returns-clause-crash
returns-clause-crash g c =
    let slot = slot_number c.args.slot in
    let body = spelling c.args.root.now in
    let low = slot_below c.args.slot in
    let fit = g.met.D.Disk.reads_fit c.args.disk.now in
    let fit1 = g.met.D.Disk.reads_fit c.shut.new.disk in
    joined g.D.Disk c.args.disk.now c.fill.new.disk c.raise.new.disk _ _ _
    (joined g.D.Disk c.args.disk.now c.shut.new.disk c.fill.new.disk _ _ _ c.shut.ensures.crash c.fill.ensures.crash
    (λ image. during_shut slot body low _ image fit c.requires.size)
    (λ image. during_fill slot body low _ _ image fit fit1 c.requires.size c.in_ok-shut.ensures.written))
    c.raise.ensures.crash
    (λ image comes. comes)
    (λ image. during_raise slot body low c.fill.ensures.whole _ _ _ image fit fit1 (g.met.D.Disk.reads_fit c.fill.new.disk) c.requires.size c.in_ok-shut.ensures.written c.in_ok-fill.ensures.written)

pub returns-clause-written : goal.returns-clause-written
returns-clause-written g c =
    on_ok_weaker c.raise.result
    (λ raised. (
      has_new_root (slot_number c.args.slot) (spelling c.args.root.now) (slot_below c.args.slot) c.fill.ensures.whole _ _ _ _ c.requires.size c.in_ok-shut.ensures.written c.in_ok-fill.ensures.written raised,
      others_kept (slot_number c.args.slot) (spelling c.args.root.now) (slot_below c.args.slot) _ _ _ _ c.in_ok-shut.ensures.written c.in_ok-fill.ensures.written raised,
      c.fill.ensures.whole,
    ))
    c.raise.ensures.written
