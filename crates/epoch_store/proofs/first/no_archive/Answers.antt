-- A sync, and a read of the root.
use Rattle.disk_model.specs.Laws.{sync_image}
use Rattle.epoch_store.proofs.Initial.{looking_leaves}
use Rattle.epoch_store.proofs.first.no_archive.Goals as goal

pub returns-in-Ok-None-clause-crash : goal.returns-in-Ok-None-clause-crash
returns-in-Ok-None-clause-crash g c =
    let disk = c.args.disk.now in
    let k0 = g.D.Disk.content disk in
    let k1 = g.D.Disk.content c.sync.new.self in
    looking_leaves g.D.Disk disk c.sync.new.self c.read.new.disk k0 k1 (λ image left. g.met.D.Disk.only_now disk image left) c.sync.ensures.time
    (λ image left. sync_image c.sync.result k0 k1 image (g.met.D.Disk.reads_fit disk) c.sync.ensures.durable c.sync.ensures.torn left) c.read.ensures.crash

pub returns-in-Ok-Some-clause-crash : goal.returns-in-Ok-Some-clause-crash
returns-in-Ok-Some-clause-crash g c =
    let disk = c.args.disk.now in
    let k0 = g.D.Disk.content disk in
    let k1 = g.D.Disk.content c.sync.new.self in
    looking_leaves g.D.Disk disk c.sync.new.self c.read.new.disk k0 k1 (λ image left. g.met.D.Disk.only_now disk image left) c.sync.ensures.time
    (λ image left. sync_image c.sync.result k0 k1 image (g.met.D.Disk.reads_fit disk) c.sync.ensures.durable c.sync.ensures.torn left) c.read.ensures.crash

pub returns-in-Err-Damaged-clause-crash : goal.returns-in-Err-Damaged-clause-crash
returns-in-Err-Damaged-clause-crash g c =
    let disk = c.args.disk.now in
    let k0 = g.D.Disk.content disk in
    let k1 = g.D.Disk.content c.sync.new.self in
    looking_leaves g.D.Disk disk c.sync.new.self c.read.new.disk k0 k1 (λ image left. g.met.D.Disk.only_now disk image left) c.sync.ensures.time
    (λ image left. sync_image c.sync.result k0 k1 image (g.met.D.Disk.reads_fit disk) c.sync.ensures.durable c.sync.ensures.torn left) c.read.ensures.crash

pub returns-in-Err-DiskFault-clause-crash : goal.returns-in-Err-DiskFault-clause-crash
returns-in-Err-DiskFault-clause-crash g c =
    let disk = c.args.disk.now in
    let k0 = g.D.Disk.content disk in
    let k1 = g.D.Disk.content c.sync.new.self in
    looking_leaves g.D.Disk disk c.sync.new.self c.read.new.disk k0 k1 (λ image left. g.met.D.Disk.only_now disk image left) c.sync.ensures.time
    (λ image left. sync_image c.sync.result k0 k1 image (g.met.D.Disk.reads_fit disk) c.sync.ensures.durable c.sync.ensures.torn left) c.read.ensures.crash
