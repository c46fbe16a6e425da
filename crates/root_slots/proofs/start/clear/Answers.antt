-- One step for the removal, and one for the sync.
use Rattle.disk_model.specs.Disk.{Files, Image, Removed, TornRemoval}
use Rattle.disk_model.specs.Laws.{sync_image}
use Rattle.disk_model.specs.Moments.{started, goes_on}
use Rattle.root_slots.specs.Slots.{StillShut}
use Rattle.root_slots.proofs.Starting.{shut_at_start, shut_removed}
use Rattle.root_slots.proofs.start.clear.Goals as goal

pub returns-in_err-remove-clause-crash : goal.returns-in_err-remove-clause-crash
returns-in_err-remove-clause-crash g c =
    let disk = c.args.disk.now in
    let k = g.D.Disk.content disk in
    let start = started g.D.Disk disk (StillShut k) (λ image left. shut_at_start k image (g.met.D.Disk.only_now disk image left)) in
    goes_on g.D.Disk disk disk c.remove.new.self (StillShut k) _ start c.remove.ensures.time
    (λ image. shut_removed TornRemoval k _ image (λ a b torn. torn.crash) (rw c.root_file.ensures at c.in_err-remove.ensures.torn))

pub returns-clause-crash : goal.returns-clause-crash
returns-clause-crash g c =
    let disk = c.args.disk.now in
    let k = g.D.Disk.content disk in
    let m = g.D.Disk.content c.remove.new.self in
    let start = started g.D.Disk disk (StillShut k) (λ image left. shut_at_start k image (g.met.D.Disk.only_now disk image left)) in
    let removed = λ (image : Files) (left : Image m image). shut_removed Removed k m image (λ a b gone. gone.crash) (rw c.root_file.ensures at c.in_ok-remove.ensures.removed) left in
    let first = goes_on g.D.Disk disk disk c.remove.new.self (StillShut k) m start c.remove.ensures.time removed in
    goes_on g.D.Disk disk c.remove.new.self c.sync.new.self (StillShut k) _ first c.sync.ensures.time
    (λ image left. removed image (sync_image c.sync.result m _ image (g.met.D.Disk.reads_fit c.remove.new.self) c.sync.ensures.durable c.sync.ensures.torn left))
