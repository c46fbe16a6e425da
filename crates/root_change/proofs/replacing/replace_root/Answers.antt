-- One step for each of the three calls.
use Rattle.std.specs.Prelude.{Some}
use Rattle.std.proofs.lemmas.Result.{on_ok_weaker}
use Rattle.disk_model.specs.Disk.{Image}
use Rattle.disk_model.specs.Laws.{sync_image}
use Rattle.disk_model.specs.Moments.{weaker}
use Rattle.root_slots.proofs.OneRoots.{looks_one}
use Rattle.root_slots.specs.Slots.{slot_number, slot_below}
use Rattle.root_slots.specs.Spelling.{spelling}
use Rattle.root_change.specs.Replacing.{StandsForEither}
use Rattle.root_change.proofs.Phases.{before_told, sync_leaves, commit_leaves, drops_leave, done_on, kept_told, commit_root, drops_root}
use Rattle.root_change.proofs.replacing.replace_root.Goals as goal

pub returns-in_err-sync-clause-crash : goal.returns-in_err-sync-clause-crash
returns-in_err-sync-clause-crash g c = λ texts next todo.
    let disk = c.args.disk.now in
    let d1 = c.sync.new.self in
    let content = g.D.Disk.content in
    let looks = sync_leaves g.D.Disk disk d1 (g.met.D.Disk.only_now disk) c.sync.ensures.time (λ image. sync_image c.sync.result (content disk) (content d1) image (g.met.D.Disk.reads_fit disk) c.sync.ensures.durable c.sync.ensures.torn) in
    weaker g.D.Disk disk d1 (Image (content disk)) (StandsForEither c.args.old.now texts c.args.new.now next) looks (λ image. before_told (slot_number c.args.slot) c.args.old.now texts c.args.new.now next (content disk) image todo)

pub returns-in_err-commit-clause-crash : goal.returns-in_err-commit-clause-crash
returns-in_err-commit-clause-crash g c = λ texts next todo.
    let disk = c.args.disk.now in
    let d1 = c.sync.new.self in
    let content = g.D.Disk.content in
    let looks = sync_leaves g.D.Disk disk d1 (g.met.D.Disk.only_now disk) c.sync.ensures.time (λ image. sync_image c.sync.result (content disk) (content d1) image (g.met.D.Disk.reads_fit disk) c.sync.ensures.durable c.sync.ensures.torn) in
    commit_leaves (slot_number c.args.slot) c.args.old.now texts c.args.new.now next g.D.Disk g.met.D.Disk.reads_fit disk d1 c.commit.new.disk todo c.in_ok-sync.ensures.durable looks c.commit.ensures.crash

pub returns-clause-crash : goal.returns-clause-crash
returns-clause-crash g c = λ texts next todo.
    let disk = c.args.disk.now in
    let d1 = c.sync.new.self in
    let content = g.D.Disk.content in
    let looks = sync_leaves g.D.Disk disk d1 (g.met.D.Disk.only_now disk) c.sync.ensures.time (λ image. sync_image c.sync.result (content disk) (content d1) image (g.met.D.Disk.reads_fit disk) c.sync.ensures.durable c.sync.ensures.torn) in
    drops_leave (slot_number c.args.slot) c.args.old.now texts c.args.new.now next g.D.Disk g.met.D.Disk.reads_fit disk d1 c.commit.new.disk todo c.in_ok-sync.ensures.durable looks c.commit.ensures.crash c.drop_old.new.disk c.in_ok-commit.ensures.committed c.in_ok-commit.ensures.done c.drop_old.ensures.crash_beside

pub returns-clause-done : goal.returns-clause-done
returns-clause-done g c = λ texts next todo.
    on_ok_weaker c.drop_old.result
    (done_on (slot_number c.args.slot) c.args.old.now texts c.args.new.now next g.D.Disk g.met.D.Disk.reads_fit c.args.disk.now c.sync.new.self c.commit.new.disk todo c.in_ok-sync.ensures.durable c.drop_old.new.disk c.in_ok-commit.ensures.again c.in_ok-commit.ensures.written c.in_ok-commit.ensures.committed)
    c.drop_old.ensures.dropped

pub returns-clause-kept : goal.returns-clause-kept
returns-clause-kept g c =
    let content = g.D.Disk.content in
    on_ok_weaker c.drop_old.result
    (kept_told (slot_number c.args.slot) (spelling c.args.new.now) c.args.old.now c.args.new.now (content c.args.disk.now) (content c.sync.new.self) (content c.commit.new.disk) (content c.drop_old.new.disk) (slot_below c.args.slot) c.in_ok-commit.ensures.whole c.requires.size c.in_ok-sync.ensures.durable c.in_ok-commit.ensures.written c.in_ok-commit.ensures.committed)
    c.drop_old.ensures.dropped

pub returns-in_err-sync-clause-crash_root : goal.returns-in_err-sync-clause-crash_root
returns-in_err-sync-clause-crash_root g c =
    let disk = c.args.disk.now in
    let d1 = c.sync.new.self in
    let content = g.D.Disk.content in
    looks_one g.D.Disk (slot_number c.args.slot) (Some (spelling c.args.new.now)) disk d1
    (sync_leaves g.D.Disk disk d1 (g.met.D.Disk.only_now disk) c.sync.ensures.time (λ image. sync_image c.sync.result (content disk) (content d1) image (g.met.D.Disk.reads_fit disk) c.sync.ensures.durable c.sync.ensures.torn))

pub returns-in_err-commit-clause-crash_root : goal.returns-in_err-commit-clause-crash_root
returns-in_err-commit-clause-crash_root g c =
    let disk = c.args.disk.now in
    let d1 = c.sync.new.self in
    let content = g.D.Disk.content in
    let looks = sync_leaves g.D.Disk disk d1 (g.met.D.Disk.only_now disk) c.sync.ensures.time (λ image. sync_image c.sync.result (content disk) (content d1) image (g.met.D.Disk.reads_fit disk) c.sync.ensures.durable c.sync.ensures.torn) in
    commit_root g.D.Disk g.met.D.Disk.reads_fit (slot_number c.args.slot) (spelling c.args.new.now) (slot_below c.args.slot) disk d1 c.commit.new.disk looks c.in_ok-sync.ensures.durable c.commit.ensures.crash_root

pub returns-clause-crash_root : goal.returns-clause-crash_root
returns-clause-crash_root g c =
    let disk = c.args.disk.now in
    let d1 = c.sync.new.self in
    let content = g.D.Disk.content in
    let looks = sync_leaves g.D.Disk disk d1 (g.met.D.Disk.only_now disk) c.sync.ensures.time (λ image. sync_image c.sync.result (content disk) (content d1) image (g.met.D.Disk.reads_fit disk) c.sync.ensures.durable c.sync.ensures.torn) in
    drops_root g.D.Disk g.met.D.Disk.reads_fit (slot_number c.args.slot) (spelling c.args.new.now) (slot_below c.args.slot) disk d1 c.commit.new.disk looks c.in_ok-sync.ensures.durable c.commit.ensures.crash_root c.args.new.now c.drop_old.new.disk c.requires.size c.in_ok-commit.ensures.whole c.in_ok-commit.ensures.written c.in_ok-commit.ensures.committed c.drop_old.ensures.crash_beside
