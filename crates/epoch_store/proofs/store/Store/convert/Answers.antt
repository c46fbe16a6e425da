-- What the settings refuse is not begun.
use Rattle.std.proofs.Common.{refl}
use Rattle.epoch_store.specs.declared.convert_refusal.ConvertRefusal.TheVariants as refusal
use Rattle.epoch_store.proofs.ConvertCarried.{converts_unstarted}
use Rattle.epoch_store.proofs.store.Store.convert.Goals as goal

pub returns-then-self-clause-changes : goal.returns-then-self-clause-changes
returns-then-self-clause-changes g c = converts_unstarted {g = g.D.Disk} refusal.IsMirror refl refl (g.met.D.Disk.only_now c.args.disk.now) tt (λ same. absurd (cc same))

pub returns-in-Sha256-clause-changes : goal.returns-in-Sha256-clause-changes
returns-in-Sha256-clause-changes g c = converts_unstarted {g = g.D.Disk} refusal.Already refl refl (g.met.D.Disk.only_now c.args.disk.now) tt (λ same. absurd (cc same))
