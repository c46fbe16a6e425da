-- The gate is read, and the slot is filled if it is shut.
use Rattle.std.proofs.Common.{◌-◌, ℕ, Bool, true, false, None, subst}
use Rattle.std.proofs.lemmas.Result.{on_ok_weaker}
use Rattle.disk_model.specs.Disk.{WhereTold}
use Rattle.disk_model.specs.Moments.{joined}
use Rattle.root_slots.specs.Slots.{slot_number, slot_below, IsGateOpen}
use Rattle.root_slots.proofs.OneRoots.{looks_one, one_unchanged}
use Rattle.root_slots.specs.Spelling.{spelling}
use Rattle.epoch_store.specs.Settling.{StaysCurrent}
use Rattle.epoch_store.proofs.Readying.{current_now, fill_root, filled_went, filling, readied_filled, slots_open, slots_written}
use Rattle.epoch_store.proofs.settling.ready_other.Goals as goal

pub returns-clause-crash : goal.returns-clause-crash
returns-clause-crash g c = λ files_are.
    let disk = c.args.disk.now in
    let mid = c.is_open.new.disk in
    let k0 = g.D.Disk.content disk in
    let k1 = g.D.Disk.content mid in
    let body = spelling c.args.root.now in
    let slot = slot_number c.args.slot in
    let other = slot_number c.other-other.result in
    let here : WhereTold (IsGateOpen other false) k0 = subst (λ (b : Bool). WhereTold (IsGateOpen other b) k0) c.if-branch.false c.in_ok-is_open.ensures.gate in
    let shut : WhereTold (IsGateOpen (1 - slot) false) k0 = subst (λ (s : ℕ). WhereTold (IsGateOpen s false) k0) c.other-other.ensures here in
    joined g.D.Disk disk mid c.fill.new.disk _ _ (StaysCurrent slot body k0) c.is_open.ensures.crash (rw c.other-other.ensures at c.fill.ensures.crash)
    (λ image. current_now slot body k0 image files_are)
    (λ image. filling slot body k0 k1 image (g.met.D.Disk.reads_fit disk) (g.met.D.Disk.reads_fit mid) files_are c.is_open.ensures.same shut c.requires.size)

pub returns-clause-done : goal.returns-clause-done
returns-clause-done g c = λ files_are.
    let disk = c.args.disk.now in
    let mid = c.is_open.new.disk in
    let k0 = g.D.Disk.content disk in
    let k1 = g.D.Disk.content mid in
    let k2 = g.D.Disk.content c.fill.new.disk in
    let body = spelling c.args.root.now in
    let slot = slot_number c.args.slot in
    let other = slot_number c.other-other.result in
    let here : WhereTold (IsGateOpen other false) k0 = subst (λ (b : Bool). WhereTold (IsGateOpen other b) k0) c.if-branch.false c.in_ok-is_open.ensures.gate in
    let shut : WhereTold (IsGateOpen (1 - slot) false) k0 = subst (λ (s : ℕ). WhereTold (IsGateOpen s false) k0) c.other-other.ensures here in
    on_ok_weaker c.fill.result (readied_filled slot body k0 k1 k2 c.fill.ensures.whole (g.met.D.Disk.reads_fit mid) (g.met.D.Disk.reads_fit c.fill.new.disk) files_are c.is_open.ensures.same shut) (rw c.other-other.ensures at c.fill.ensures.written)

pub returns-then-branch-clause-readies : goal.returns-then-branch-clause-readies
returns-then-branch-clause-readies g c =
    let k0 = g.D.Disk.content c.args.disk.now in
    let other = slot_number c.other-other.result in
    let here : WhereTold (IsGateOpen other true) k0 = subst (λ (b : Bool). WhereTold (IsGateOpen other b) k0) c.if-branch.true c.in_ok-is_open.ensures.gate in
    let opened = subst (λ (s : ℕ). WhereTold (IsGateOpen s true) k0) c.other-other.ensures here in
    slots_open (slot_number c.args.slot) (spelling c.args.root.now) k0 (g.D.Disk.content c.is_open.new.disk) c.is_open.ensures.same opened

pub returns-clause-readies : goal.returns-clause-readies
returns-clause-readies g c =
    let k0 = g.D.Disk.content c.args.disk.now in
    let k1 = g.D.Disk.content c.is_open.new.disk in
    let k2 = g.D.Disk.content c.fill.new.disk in
    let slot = slot_number c.args.slot in
    let other = slot_number c.other-other.result in
    let here : WhereTold (IsGateOpen other false) k0 = subst (λ (b : Bool). WhereTold (IsGateOpen other b) k0) c.if-branch.false c.in_ok-is_open.ensures.gate in
    let shut = subst (λ (s : ℕ). WhereTold (IsGateOpen s false) k0) c.other-other.ensures here in
    on_ok_weaker c.fill.result (slots_written slot (spelling c.args.root.now) k0 k1 k2 c.is_open.ensures.same shut) (rw c.other-other.ensures at c.fill.ensures.written)

pub returns-in_err-is_open-clause-crash_root : goal.returns-in_err-is_open-clause-crash_root
returns-in_err-is_open-clause-crash_root g c = λ files_are. looks_one g.D.Disk (1 - slot_number c.args.slot) None c.args.disk.now c.is_open.new.disk c.is_open.ensures.crash

pub returns-then-branch-clause-crash_root : goal.returns-then-branch-clause-crash_root
returns-then-branch-clause-crash_root g c = λ files_are. looks_one g.D.Disk (1 - slot_number c.args.slot) None c.args.disk.now c.is_open.new.disk c.is_open.ensures.crash

pub returns-then-branch-clause-went : goal.returns-then-branch-clause-went
returns-then-branch-clause-went g c = λ files_are. one_unchanged (1 - slot_number c.args.slot) None (g.D.Disk.content c.args.disk.now) (g.D.Disk.content c.is_open.new.disk) c.is_open.ensures.same

pub returns-clause-crash_root : goal.returns-clause-crash_root
returns-clause-crash_root g c = λ files_are.
    let disk = c.args.disk.now in
    let mid = c.is_open.new.disk in
    let k0 = g.D.Disk.content disk in
    let slot = slot_number c.args.slot in
    let other = slot_number c.other-other.result in
    let here : WhereTold (IsGateOpen other false) k0 = subst (λ (b : Bool). WhereTold (IsGateOpen other b) k0) c.if-branch.false c.in_ok-is_open.ensures.gate in
    let shut : WhereTold (IsGateOpen (1 - slot) false) k0 = subst (λ (s : ℕ). WhereTold (IsGateOpen s false) k0) c.other-other.ensures here in
    fill_root g.D.Disk slot (spelling c.args.root.now) (slot_below c.args.slot) disk mid c.fill.new.disk (g.met.D.Disk.reads_fit mid) c.requires.size files_are c.is_open.ensures.same shut c.is_open.ensures.crash
    (rw c.other-other.ensures at c.fill.ensures.crash)

pub returns-clause-went : goal.returns-clause-went
returns-clause-went g c = λ files_are.
    let k0 = g.D.Disk.content c.args.disk.now in
    let k1 = g.D.Disk.content c.is_open.new.disk in
    let k2 = g.D.Disk.content c.fill.new.disk in
    let slot = slot_number c.args.slot in
    let other = slot_number c.other-other.result in
    let here : WhereTold (IsGateOpen other false) k0 = subst (λ (b : Bool). WhereTold (IsGateOpen other b) k0) c.if-branch.false c.in_ok-is_open.ensures.gate in
    let shut : WhereTold (IsGateOpen (1 - slot) false) k0 = subst (λ (s : ℕ). WhereTold (IsGateOpen s false) k0) c.other-other.ensures here in
    on_ok_weaker c.fill.result (filled_went slot (spelling c.args.root.now) k0 k1 k2 c.fill.ensures.whole (g.met.D.Disk.reads_fit c.args.disk.now) files_are c.is_open.ensures.same shut) (rw c.other-other.ensures at c.fill.ensures.written)
