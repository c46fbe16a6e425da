use Rattle.std.proofs.Common.{sym, subst}
use Rattle.store_finding.specs.Kept.{StoreState, IsStoreWith}
use Rattle.archive_core.proofs.ByNumber.{epoch_appends}
use Rattle.archive_core.proofs.archive.DiskArchive.epoch_bytes.Goals as goal

pub returns-clause-bytes : goal.returns-clause-bytes
returns-clause-bytes g c = λ a cache own. c.epoch.ensures.bytes a cache (subst (λ (v : StoreState). IsStoreWith v cache a (g.D.Disk.content c.args.disk.now)) (sym c.self.view_is) own)

pub returns-clause-appends : goal.returns-clause-appends
returns-clause-appends g c = epoch_appends c.self.inside.store c.args.epoch c.args.into.now c.epoch.new.into c.epoch.result c.epoch.ensures.named c.epoch.ensures.kept
