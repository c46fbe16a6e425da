-- A sync that is not passed changes nothing, and the files as they read are one of the images.
use Rattle.std.proofs.Common.{subst, sym}
use Rattle.disk_model.specs.Disk.{BothTold, NotSynced}
use Rattle.disk_model.specs.Laws.{NotSynced-same}
use Rattle.disk_model.proofs.fuse.FuseDiskDisk.sync.Goals as goal

pub returns-then-is_spent-clause-torn : goal.returns-then-is_spent-clause-torn
returns-then-is_spent-clause-torn g c =
    let old = c.args.self.now.inner in
    subst (λ disk. BothTold NotSynced (g.D.Disk.content old) (g.D.Disk.content disk)) (sym c.is_spent.ensures.inner) (NotSynced-same (g.D.Disk.content old) (g.met.D.Disk.reads_fit old))
