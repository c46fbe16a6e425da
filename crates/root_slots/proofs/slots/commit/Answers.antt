-- What a crash leaves while the slot is written, and what the root file has then.
use Rattle.std.proofs.Common.{arith}
use Rattle.std.proofs.lemmas.Result.{on_ok_weaker}
use Rattle.disk_model.specs.Moments.{weaker}
use Rattle.root_slots.specs.Spelling.{spelling}
use Rattle.root_slots.specs.Slots.{slot_number, slot_below}
use Rattle.root_slots.proofs.Phases.{new_current, other_ready}
use Rattle.root_slots.proofs.Commits.{newer_root, to_old_or_new, to_one_root, to_others, each_new}
use Rattle.root_slots.proofs.slots.commit.Goals as goal

pub returns-clause-crash : goal.returns-clause-crash
returns-clause-crash g c = λ old ready later.
    weaker g.D.Disk c.args.disk.now c.write_slot.new.disk _ _ c.write_slot.ensures.crash
    (λ image. to_old_or_new (slot_number c.args.slot) (spelling c.args.root.now) (slot_below c.args.slot) old _ image (newer_root c.args.root.now old (omega arith) later) ready)

pub returns-clause-done : goal.returns-clause-done
returns-clause-done g c = λ old ready later.
    let slot = slot_number c.args.slot in
    let body = spelling c.args.root.now in
    let low = slot_below c.args.slot in
    let newer = newer_root c.args.root.now old (omega arith) later in
    on_ok_weaker c.write_slot.result
    (λ written. each_new slot body low _ _ _ _ (g.met.D.Disk.reads_fit c.args.disk.now) (λ a. new_current slot old body low newer a written.2) ready written.0 written.1)
    c.write_slot.ensures.written

pub returns-clause-again : goal.returns-clause-again
returns-clause-again g c = λ old ready later.
    let slot = slot_number c.args.slot in
    let body = spelling c.args.root.now in
    let low = slot_below c.args.slot in
    let newer = newer_root c.args.root.now old (omega arith) later in
    on_ok_weaker c.write_slot.result
    (λ written. each_new slot body low _ _ _ _ (g.met.D.Disk.reads_fit c.args.disk.now) (λ a. other_ready slot old body low newer a written.2) ready written.0 written.1)
    c.write_slot.ensures.written

pub returns-clause-elsewhere : goal.returns-clause-elsewhere
returns-clause-elsewhere g c =
    weaker g.D.Disk c.args.disk.now c.write_slot.new.disk _ _ c.write_slot.ensures.crash (λ image. to_others _ _ image)

pub returns-clause-crash_root : goal.returns-clause-crash_root
returns-clause-crash_root g c =
    weaker g.D.Disk c.args.disk.now c.write_slot.new.disk _ _ c.write_slot.ensures.crash
    (λ image. to_one_root (slot_number c.args.slot) (spelling c.args.root.now) (slot_below c.args.slot) _ image)

pub returns-clause-written : goal.returns-clause-written
returns-clause-written g c = on_ok_weaker c.write_slot.result (λ written. written.0) c.write_slot.ensures.written

pub returns-clause-committed : goal.returns-clause-committed
returns-clause-committed g c = on_ok_weaker c.write_slot.result (λ written. written.1) c.write_slot.ensures.written

pub returns-clause-whole : goal.returns-clause-whole
returns-clause-whole g c = on_ok_weaker c.write_slot.result (λ written. written.2) c.write_slot.ensures.written
