-- What is found after the sync.
use Rattle.disk_model.specs.Disk.{Image}
use Rattle.disk_model.specs.Laws.{sync_image}
use Rattle.disk_model.specs.Moments.{goes_on, started, joined}
use Rattle.epoch_store.proofs.Reopening.{found_before}
use Rattle.epoch_store.proofs.store_opening.find_synced.Goals as goal

pub returns-clause-found : goal.returns-clause-found
returns-clause-found g c =
    found_before _ (g.D.Disk.content c.args.disk.now) (g.D.Disk.content c.sync.new.self) c.in_ok-sync.ensures.durable c.find.ensures.found

pub returns-clause-crash : goal.returns-clause-crash
returns-clause-crash g c =
    let disk = c.args.disk.now in
    let d1 = c.sync.new.self in
    let k0 = g.D.Disk.content disk in
    let k1 = g.D.Disk.content d1 in
    let P = Image k0 in
    let synced = goes_on g.D.Disk disk disk d1 P k1 (started g.D.Disk disk P (λ image. g.met.D.Disk.only_now disk image)) c.sync.ensures.time
    (λ image. sync_image c.sync.result k0 k1 image (g.met.D.Disk.reads_fit disk) c.sync.ensures.durable c.sync.ensures.torn) in
    joined g.D.Disk disk d1 c.find.new.disk P (Image k1) P synced c.find.ensures.crash (λ image left. left)
    (λ image. sync_image c.sync.result k0 k1 image (g.met.D.Disk.reads_fit disk) c.sync.ensures.durable c.sync.ensures.torn)
