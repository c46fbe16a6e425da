-- One read of the disk, and none.
use Rattle.disk_model.specs.Disk.{Image}
use Rattle.disk_model.specs.Moments.{started, goes_on}
use Rattle.store_finding.proofs.NameLists.{unchanged_image}
use Rattle.store_finding.proofs.FindingTold.{unchanged_itself}
use Rattle.store_finding.proofs.reading.read_text.Goals as goal

pub returns-in_err-text-clause-same : goal.returns-in_err-text-clause-same
returns-in_err-text-clause-same g c = unchanged_itself (g.D.Disk.content c.args.disk.now)

pub returns-in_err-text-clause-crash : goal.returns-in_err-text-clause-crash
returns-in_err-text-clause-crash g c =
    let disk = c.args.disk.now in
    started g.D.Disk disk (Image (g.D.Disk.content disk)) (λ image left. g.met.D.Disk.only_now disk image left)

pub returns-in_err-read-clause-crash : goal.returns-in_err-read-clause-crash
returns-in_err-read-clause-crash g c =
    let disk = c.args.disk.now in
    let new = c.read.new.self in
    let k = g.D.Disk.content disk in
    let start = started g.D.Disk disk (Image k) (λ image left. g.met.D.Disk.only_now disk image left) in
    goes_on g.D.Disk disk disk new (Image k) (g.D.Disk.content new) start c.read.ensures.time (λ image left. unchanged_image k (g.D.Disk.content new) image c.read.ensures.same left)

pub returns-clause-crash : goal.returns-clause-crash
returns-clause-crash g c =
    let disk = c.args.disk.now in
    let new = c.read.new.self in
    let k = g.D.Disk.content disk in
    let start = started g.D.Disk disk (Image k) (λ image left. g.met.D.Disk.only_now disk image left) in
    goes_on g.D.Disk disk disk new (Image k) (g.D.Disk.content new) start c.read.ensures.time (λ image left. unchanged_image k (g.D.Disk.content new) image c.read.ensures.same left)
